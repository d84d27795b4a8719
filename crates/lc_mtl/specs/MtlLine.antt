-- One line of a material library: what it says, and the tests that it has to pass.
use Rattle.std.specs.Prelude.{ℕ, ◌+◌, ◌/◌, ◌||◌, nat_lt, min, List, [], ◌∷◌, length, Option, Some, None, option_map, Result, Ok, Err, ℤ, pos, negsuc, unsigned_abs, if◌then◌else◌, codes}
use Rattle.std.specs.Str.{bytes_eq}
use Rattle.lc_num.specs.declared.channels.Colour.{Colour}
use Rattle.lc_scan.specs.Decimal.{decimal_of}
use Rattle.lc_scan.specs.Keywords.{look_up}
use Rattle.lc_scan.specs.LineTests.{first_kind, unless}
use Rattle.lc_scan.specs.declared.fault.NumFault.{NumFault}
use Rattle.lc_mtl.specs.Settings.{grey}
use Rattle.lc_mtl.specs.declared.entry.Entry.{Entry}
use Rattle.lc_mtl.specs.declared.entry.Entry.TheVariants as entry
use Rattle.lc_mtl.specs.declared.entry.Setting.TheVariants as setting
use Rattle.lc_mtl.specs.declared.keyword.Keyword.{Keyword}
use Rattle.lc_mtl.specs.declared.keyword.Keyword.TheVariants as keyword
use Rattle.lc_mtl.specs.declared.fault_kind.FaultKind.{FaultKind}
use Rattle.lc_mtl.specs.declared.fault_kind.FaultKind.TheVariants as kind

-- ---- what a line says: its keyword is the first field, its values are the others

-- the keywords, each with its word
abbrev pub keywords : List (List ℕ × Keyword)
keywords =
    (codes "newmtl", keyword.Material) ∷ (codes "Kd", keyword.Diffuse) ∷ (codes "Ks", keyword.Specular)
    ∷ (codes "Ns", keyword.Exponent) ∷ []

-- the keyword that a field is, if it is one; lines of others are passed over
unfoldable pub keyword_of : List ℕ → Option Keyword
keyword_of word = look_up keywords word

abbrev pub units_of : Result ℤ NumFault → ℕ
units_of (Ok z) = unsigned_abs z
units_of (Err e) = 0

-- the units of a number that is not below 0
abbrev pub units : List ℕ → ℕ
units value = units_of (decimal_of value)

-- a share of light in 1/10000; above 1 it is 1
unfoldable pub share : List ℕ → ℕ
share value = min (units value) 10000

-- units, and then the nearest whole number, halves up; above 1000 it is 1000
unfoldable pub exponent_of : List ℕ → ℕ
exponent_of value = min ((units value + 5000) / 10000) 1000

-- one share for all channels, or three; where a line is faulty, what it would say is of no account
abbrev pub colour : List (List ℕ) → Colour
colour [] = grey 0
colour (all ∷ []) = grey (share all)
colour (r ∷ g ∷ []) = grey 0
colour (r ∷ g ∷ b ∷ more) = record { r = share r; g = share g; b = share b }

abbrev pub exponent : List (List ℕ) → ℕ
exponent [] = 0
exponent (value ∷ more) = exponent_of value

-- what the values after a keyword say
abbrev pub entry_by : Keyword → List (List ℕ) → Entry
entry_by keyword.Material values = entry.Begin
entry_by keyword.Diffuse values = entry.Set (setting.Diffuse (colour values))
entry_by keyword.Specular values = entry.Set (setting.Specular (colour values))
entry_by keyword.Exponent values = entry.Set (setting.Exponent (exponent values))

-- what a line of these fields says, if anything, where it has no fault
unfoldable pub entry_of : List (List ℕ) → Option Entry
entry_of [] = None
entry_of (word ∷ values) = option_map (λ key. entry_by key values) (keyword_of word)

-- ---- the tests; each gives its kind where it fails

abbrev pub units_test : Result ℤ NumFault → Option FaultKind
units_test (Err e) = Some kind.Number
units_test (Ok (negsuc n)) = Some kind.Negative
units_test (Ok (pos n)) = None

-- a number that is not below 0
abbrev pub number_test : List ℕ → Option FaultKind
number_test value = units_test (decimal_of value)

-- no colour by a spectral file, nor in XYZ
abbrev pub form_test : List ℕ → Option FaultKind
form_test value = if bytes_eq value (codes "spectral") || bytes_eq value (codes "xyz") then Some kind.Colour else None

-- one number or at least three, each from the left
abbrev pub colour_tests : List (List ℕ) → List (Option FaultKind)
colour_tests [] = Some kind.Colour ∷ []
colour_tests (all ∷ []) = form_test all ∷ number_test all ∷ []
colour_tests (r ∷ g ∷ []) = Some kind.Colour ∷ []
colour_tests (r ∷ g ∷ b ∷ more) = form_test r ∷ number_test r ∷ number_test g ∷ number_test b ∷ []

-- a number at least
abbrev pub exponent_tests : List (List ℕ) → List (Option FaultKind)
exponent_tests [] = Some kind.Number ∷ []
exponent_tests (value ∷ more) = number_test value ∷ []

-- a material of this text has begun
abbrev pub begun_test : ℕ → Option FaultKind
begun_test begun = unless (nat_lt 0 begun) kind.NoMaterial

abbrev pub name_test : List ℕ → Option FaultKind
name_test name = unless (nat_lt 0 (length name)) kind.Name

-- with these materials there is room for one more
abbrev pub room_test : ℕ → Option FaultKind
room_test so_far = unless (nat_lt so_far 4096) kind.TooMany

-- the tests of a line by its keyword, its name and its values, in their order: `held` materials stood before the text,
-- and `begun` begin in it before the line
abbrev pub tests : ℕ → ℕ → Keyword → List ℕ → List (List ℕ) → List (Option FaultKind)
tests held begun keyword.Material name values = name_test name ∷ room_test (held + begun) ∷ []
tests held begun keyword.Diffuse name values = begun_test begun ∷ colour_tests values
tests held begun keyword.Specular name values = begun_test begun ∷ colour_tests values
tests held begun keyword.Exponent name values = begun_test begun ∷ exponent_tests values

abbrev pub kind_by : ℕ → ℕ → Option Keyword → List ℕ → List (List ℕ) → Option FaultKind
kind_by held begun None name values = None
kind_by held begun (Some key) name values = first_kind (tests held begun key name values)

-- the kind of the first test that a line of this name and these fields fails; a line of another keyword passes
unfoldable pub kind_of : ℕ → ℕ → List ℕ → List (List ℕ) → Option FaultKind
kind_of held begun name [] = None
kind_of held begun name (word ∷ values) = kind_by held begun (keyword_of word) name values
