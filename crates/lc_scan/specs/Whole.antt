-- Whole numbers of fields.
use Rattle.std.specs.Prelude.{ℕ, Bool, ◌&&◌, nat_lt, List, length, Result, Ok, Err, if◌then◌else◌}
use Rattle.std.specs.List.{list_all}
use Rattle.std.specs.Char.{is_ascii_digit}
use Rattle.std.specs.Str.Parse.{digits_value}
use Rattle.lc_scan.specs.declared.fault.NumFault.{NumFault}
use Rattle.lc_scan.specs.declared.fault.NumFault.TheVariants.{Form, TooLong, Range}

-- digits, and at least one
abbrev pub are_digits : List ℕ → Bool
are_digits bytes = list_all is_ascii_digit bytes && nat_lt 0 (length bytes)

-- the number of these digits, or its fault
abbrev pub counted : List ℕ → Result ℕ NumFault
counted digits =
    if nat_lt 30 (length digits)
    then Err TooLong
    else if nat_lt 18_446_744_073_709_551_615 (digits_value 10 digits) then Err Range else Ok (digits_value 10 digits)

-- the value of a whole number, or 0 where it has a fault
abbrev pub value : Result ℕ NumFault → ℕ
value (Ok n) = n
value (Err fault) = 0

-- the whole number that a field spells, or the field's fault
abbrev pub whole_of : List ℕ → Result ℕ NumFault
whole_of field = if are_digits field then counted field else Err Form
