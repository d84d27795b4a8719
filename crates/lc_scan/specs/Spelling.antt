-- A decimal as it is spelled.
use Rattle.std.specs.Prelude.{◌≡◌, ℕ, ◌+◌, ◌<◌, Bool, true, false, List, [], ◌∷◌, ◌++◌, length, Option, Some, None}
use Rattle.std.specs.List.{list_all}
use Rattle.std.specs.Char.{is_ascii_digit}
use Rattle.lc_scan.specs.Decimal.{Parts, is_mark}

pub data Sign : Type 0 where
  bare : Sign
  plus : Sign
  minus : Sign

abbrev pub sign_text : Sign → List ℕ
sign_text bare = []
sign_text plus = 43 ∷ []
sign_text minus = 45 ∷ []

abbrev pub is_minus : Sign → Bool
is_minus bare = false
is_minus plus = false
is_minus minus = true

-- a mark, a sign or none, and digits
pub record Exponent : Type 0 where
  pub mark : ℕ
  pub sign : Sign
  pub digits : List ℕ

-- a sign or none, digits, a point with digits or none, and an exponent or none
pub record Spelling : Type 0 where
  pub sign : Sign
  pub before : List ℕ
  pub after : Option (List ℕ)
  pub exponent : Option Exponent

abbrev pub fraction_text : Option (List ℕ) → List ℕ
fraction_text None = []
fraction_text (Some digits) = 46 ∷ digits

abbrev pub exponent_text : Option Exponent → List ℕ
exponent_text None = []
exponent_text (Some e) = e.mark ∷ (sign_text e.sign ++ e.digits)

-- the bytes of a spelling
abbrev pub spelled : Spelling → List ℕ
spelled s = (sign_text s.sign ++ (s.before ++ fraction_text s.after)) ++ exponent_text s.exponent

abbrev pub AreDigits : List ℕ → Type 0
AreDigits bytes = list_all is_ascii_digit bytes ≡ true

abbrev pub digits_in : Option (List ℕ) → List ℕ
digits_in None = []
digits_in (Some digits) = digits

pub record IsMarked (e : Exponent) : Type 0 where
  pub mark : is_mark e.mark ≡ true
  pub digits : AreDigits e.digits
  pub some : 0 < length e.digits

abbrev pub IsExponent : Option Exponent → Type 0
IsExponent None = Unit {0}
IsExponent (Some e) = IsMarked e

-- digits, at least one before or after the point, and at least one in an exponent
pub record IsDecimal (s : Spelling) : Type 0 where
  pub before : AreDigits s.before
  pub after : AreDigits (digits_in s.after)
  pub some : 0 < length s.before + length (digits_in s.after)
  pub exponent : IsExponent s.exponent

abbrev pub with_exponent : Bool → List ℕ → List ℕ → Option Exponent → Parts
with_exponent negative before after None =
    record { negative = negative; before = before; after = after; shrinks = false; exponent = None }
with_exponent negative before after (Some e) =
    record { negative = negative; before = before; after = after; shrinks = is_minus e.sign; exponent = Some e.digits }

-- the parts of what is spelled
abbrev pub parts : Spelling → Parts
parts s = with_exponent (is_minus s.sign) s.before (digits_in s.after) s.exponent
