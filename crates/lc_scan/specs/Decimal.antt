-- Decimals of fields, in units of 1/10000.
use Rattle.std.specs.Prelude.{ℕ, ◌+◌, ◌*◌, ◌/◌, ◌^◌, ◌<◌, ◌≤◌, Bool, true, ◌||◌, ◌&&◌, ◌==◌, nat_lt, List, [], ◌∷◌, ◌++◌, length, Option, Some, None, Result, Ok, Err, ℤ, pos, neg_ℤ, if◌then◌else◌, slice_index}
use Rattle.std.specs.List.{list_any, before_first, after_first}
use Rattle.std.specs.Str.Parse.{digits_value}
use Rattle.lc_scan.specs.declared.fault.NumFault.{NumFault}
use Rattle.lc_scan.specs.declared.fault.NumFault.TheVariants.{Form, TooLong, Range}
use Rattle.lc_scan.specs.Whole.{are_digits}

-- `e` or `E`, which stands before an exponent
abbrev pub is_mark : ℕ → Bool
is_mark b = b == 101 || b == 69

abbrev pub is_point : ℕ → Bool
is_point b = b == 46

abbrev pub is_sign : ℕ → Bool
is_sign b = b == 43 || b == 45

-- what stands after a sign, if one stands in front
abbrev pub unsigned : List ℕ → List ℕ
unsigned [] = []
unsigned (b ∷ bs) = if is_sign b then bs else b ∷ bs

abbrev pub is_negative : List ℕ → Bool
is_negative bytes = slice_index bytes 0 == 45

-- the parts of a field: whether a minus stands in front, what stands before the point and after it, whether the
-- exponent has a minus, and what else the exponent is, if there is one
pub record Parts : Type 0 where
  pub negative : Bool
  pub before : List ℕ
  pub after : List ℕ
  pub shrinks : Bool
  pub exponent : Option (List ℕ)

unfoldable pub parts_of : List ℕ → Parts
parts_of field =
    let front = before_first is_mark field in
    let back = after_first is_mark field in
    record {
      negative = is_negative front;
      before = before_first is_point (unsigned front);
      after = after_first is_point (unsigned front);
      shrinks = is_negative back;
      exponent = if list_any is_mark field then Some (unsigned back) else None;
    }

abbrev pub is_exponent : Option (List ℕ) → Bool
is_exponent None = true
is_exponent (Some digits) = are_digits digits

-- digits, at least one before or after the point, and at least one in an exponent
abbrev pub is_decimal : Parts → Bool
is_decimal p = are_digits (p.before ++ p.after) && is_exponent p.exponent

abbrev pub exponent_size : Option (List ℕ) → ℕ
exponent_size None = 0
exponent_size (Some digits) = digits_value 10 digits

-- 10000 times what the parts denote is the fraction top / bottom, sign apart
abbrev pub top : Parts → ℕ
top p = digits_value 10 (p.before ++ p.after) * 10 ^ (4 + (if p.shrinks then 0 else exponent_size p.exponent))

abbrev pub bottom : Parts → ℕ
bottom p = 10 ^ (length p.after + (if p.shrinks then exponent_size p.exponent else 0))

-- the nearest whole number to t / b, halves up
abbrev pub nearest : ℕ → ℕ → ℕ
nearest t b = (2 * t + b) / (2 * b)

-- n - 1/2 <= t / b < n + 1/2
pub record IsNearest (n t b : ℕ) : Type 0 where
  pub low : 2 * n * b ≤ 2 * t + b
  pub high : 2 * t < 2 * n * b + b

-- the nearest number of units, sign apart
unfoldable pub size : Parts → ℕ
size p = nearest (top p) (bottom p)

unfoldable pub is_too_long : Parts → Bool
is_too_long p = nat_lt 30 (length (p.before ++ p.after)) || nat_lt 40 (exponent_size p.exponent)

abbrev pub signed : Bool → ℕ → ℤ
signed negative n = if negative then neg_ℤ (pos n) else pos n

-- the units of a decimal with these parts, or its fault
abbrev pub measured : Parts → Result ℤ NumFault
measured p =
    if is_too_long p
    then Err TooLong
    else if nat_lt (10 ^ 14) (size p) then Err Range else Ok (signed p.negative (size p))

abbrev pub judged : Parts → Result ℤ NumFault
judged p = if is_decimal p then measured p else Err Form

-- the units of the decimal that a field spells, or the field's fault
abbrev pub decimal_of : List ℕ → Result ℤ NumFault
decimal_of field = judged (parts_of field)

-- the units of a decimal, or 0 where it has a fault
abbrev pub units : Result ℤ NumFault → ℤ
units (Ok z) = z
units (Err fault) = pos 0
