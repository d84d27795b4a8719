-- One line of a job file: what it says, and the tests that it has to pass.
use Rattle.std.specs.Prelude.{ℕ, Bool, false, not, ◌==◌, ◌&&◌, nat_le, nat_lt, List, [], ◌∷◌, length, Option, Some, None, option_map, unwrap_or, is_ok, ℤ, pos, negsuc, unsigned_abs}
use Rattle.std.specs.List.{list_all}
use Rattle.lc_num.specs.Rules.{rule_of}
use Rattle.lc_num.specs.declared.rules.Rule.{Rule}
use Rattle.lc_num.specs.declared.rules.Rule.TheVariants as rules
use Rattle.lc_num.specs.declared.vectors.Vec3.{Vec3}
use Rattle.lc_scan.specs.Fields.{field_at, keyword_in, rest, values_in}
use Rattle.lc_scan.specs.Coordinates.{is_place}
use Rattle.lc_scan.specs.Decimal.{decimal_of, units}
use Rattle.lc_scan.specs.LineTests.{first_kind, unless}
use Rattle.lc_scan.specs.Names.{is_utf8}
use Rattle.lc_scan.specs.Whole.{value, whole_of}
use Rattle.lc_job.specs.Keys.{key_of}
use Rattle.lc_job.specs.declared.entry.Entry.{Entry}
use Rattle.lc_job.specs.declared.entry.Entry.TheVariants as entry
use Rattle.lc_job.specs.declared.entry.Size.{Size}
use Rattle.lc_job.specs.declared.key.Key.{Key}
use Rattle.lc_job.specs.declared.key.Key.TheVariants as key
use Rattle.lc_job.specs.declared.fault_kind.FaultKind.{FaultKind}
use Rattle.lc_job.specs.declared.fault_kind.FaultKind.TheVariants as kind

-- ---- what a line says by its keyword and its values; a name is its rest

-- the k-th value as a decimal, in units
abbrev pub decimal_at : ℕ → List (List ℕ) → ℤ
decimal_at k values = units (decimal_of (field_at k values))

-- the k-th value as a whole number
abbrev pub whole_at : ℕ → List (List ℕ) → ℕ
whole_at k values = value (whole_of (field_at k values))

abbrev pub vector : List (List ℕ) → Vec3
vector values = record { x = decimal_at 0 values; y = decimal_at 1 values; z = decimal_at 2 values }

abbrev pub size : List (List ℕ) → Size
size values = record { width = whole_at 0 values; height = whole_at 1 values }

-- the units of a decimal that is not below 0
abbrev pub amount : List (List ℕ) → ℕ
amount values = unsigned_abs (decimal_at 0 values)

-- the rule of a number; of another number than 1 and 2 any value stands
abbrev pub rule : List (List ℕ) → Rule
rule values = unwrap_or (rule_of (whole_at 0 values)) rules.One

-- what a keyword says by its name or by its values
abbrev pub entry_by : Key → List ℕ → List (List ℕ) → Entry
entry_by key.Scene name values = entry.Scene name
entry_by key.Lights name values = entry.Lights name
entry_by key.Picture name values = entry.Picture name
entry_by key.Bounds name values = entry.Bounds name
entry_by key.Eye name values = entry.Eye (vector values)
entry_by key.At name values = entry.At (vector values)
entry_by key.Size name values = entry.Size (size values)
entry_by key.Up name values = entry.Up (vector values)
entry_by key.View name values = entry.View (amount values)
entry_by key.Grid name values = entry.Grid (whole_at 0 values)
entry_by key.Seed name values = entry.Seed (whole_at 0 values)
entry_by key.Error name values = entry.Error (whole_at 0 values)
entry_by key.Cut name values = entry.Cut (whole_at 0 values)
entry_by key.White name values = entry.White (amount values)
entry_by key.Rule name values = entry.Rule (rule values)

-- what a line without a fault says
unfoldable pub entry_of : List ℕ → Option Entry
entry_of line = option_map (λ k. entry_by k (rest line) (values_in line)) (key_of (keyword_in line))

-- ---- the tests; each gives its kind where it fails

-- just so many values, each a decimal
abbrev pub are_decimals : ℕ → List (List ℕ) → Bool
are_decimals count values = length values == count && list_all (λ value. is_ok (decimal_of value)) values

-- just so many values, each a whole number
abbrev pub are_wholes : ℕ → List (List ℕ) → Bool
are_wholes count values = length values == count && list_all (λ value. is_ok (whole_of value)) values

abbrev pub is_between : ℕ → ℕ → ℕ → Bool
is_between least most n = nat_le least n && nat_le n most

-- from one unit to so many
abbrev pub is_amount : ℕ → ℤ → Bool
is_amount most (pos n) = is_between 1 most n
is_amount most (negsuc n) = false

abbrev pub name_tests : List ℕ → List (Option FaultKind)
name_tests name = unless (nat_lt 0 (length name)) kind.Form ∷ unless (is_utf8 name) kind.Utf8 ∷ []

abbrev pub vector_tests : List (List ℕ) → List (Option FaultKind)
vector_tests values = unless (are_decimals 3 values) kind.Form ∷ unless (is_place (vector values)) kind.Range ∷ []

abbrev pub size_tests : List (List ℕ) → List (Option FaultKind)
size_tests values =
    unless (are_wholes 2 values) kind.Form
    ∷ unless (is_between 1 4096 (whole_at 0 values) && is_between 1 4096 (whole_at 1 values)) kind.Range ∷ []

abbrev pub amount_tests : ℕ → List (List ℕ) → List (Option FaultKind)
amount_tests most values =
    unless (are_decimals 1 values) kind.Form ∷ unless (is_amount most (decimal_at 0 values)) kind.Range ∷ []

abbrev pub whole_number_tests : ℕ → ℕ → List (List ℕ) → List (Option FaultKind)
whole_number_tests least most values =
    unless (are_wholes 1 values) kind.Form ∷ unless (is_between least most (whole_at 0 values)) kind.Range ∷ []

-- the most samples on a side of a pixel
abbrev pub most_grid : ℕ
most_grid = 16

-- the tests of a keyword's name or values, in their order
abbrev pub tests : Key → List ℕ → List (List ℕ) → List (Option FaultKind)
tests key.Scene name values = name_tests name
tests key.Lights name values = name_tests name
tests key.Picture name values = name_tests name
tests key.Bounds name values = name_tests name
tests key.Eye name values = vector_tests values
tests key.At name values = vector_tests values
tests key.Size name values = size_tests values
tests key.Up name values = vector_tests values
tests key.View name values = amount_tests 100000 values
tests key.Grid name values = whole_number_tests 1 most_grid values
tests key.Seed name values = whole_number_tests 0 18_446_744_073_709_551_615 values
tests key.Error name values = whole_number_tests 0 1000 values
tests key.Cut name values = whole_number_tests 3 65536 values
tests key.White name values = amount_tests 100000000 values
tests key.Rule name values = whole_number_tests 1 2 values

abbrev pub kind_by : (Key → Bool) → Option Key → List ℕ → List (List ℕ) → Option FaultKind
kind_by stood None name values = Some kind.Keyword
kind_by stood (Some k) name values = first_kind (unless (not (stood k)) kind.Repeated ∷ tests k name values)

-- the kind of the first test that a line fails, where these keywords stood before
unfoldable pub kind_of : (Key → Bool) → List ℕ → Option FaultKind
kind_of stood line = kind_by stood (key_of (keyword_in line)) (rest line) (values_in line)
