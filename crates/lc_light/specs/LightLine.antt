-- One line of a light file: its source of light, and the tests that it has to pass.
use Rattle.std.specs.Prelude.{ℕ, ◌+◌, ◌==◌, ◌&&◌, nat_lt, nat_le, List, [], ◌∷◌, ◌++◌, length, Option, Some, None, option_map, Result, Ok, Err, ℤ, pos, negsuc, unsigned_abs, codes}
use Rattle.lc_num.specs.declared.vectors.Vec3.{Vec3}
use Rattle.lc_num.specs.declared.channels.Power.{Power}
use Rattle.lc_num.specs.Vectors.{square}
use Rattle.lc_num.specs.Cosines.{scaled}
use Rattle.lc_scan.specs.Decimal.{decimal_of, units}
use Rattle.lc_scan.specs.Whole.{value, whole_of}
use Rattle.lc_scan.specs.Coordinates.{is_coordinate}
use Rattle.lc_scan.specs.Fields.{field_at}
use Rattle.lc_scan.specs.Keywords.{look_up}
use Rattle.lc_scan.specs.LineTests.{first_kind, unless}
use Rattle.lc_scan.specs.declared.fault.NumFault.{NumFault}
use Rattle.lc_light.specs.Areas.{has_places, spans}
use Rattle.lc_light.specs.Sources.{count}
use Rattle.lc_light.specs.declared.area.Area.{Area}
use Rattle.lc_light.specs.declared.lights.Omni.{Omni}
use Rattle.lc_light.specs.declared.lights.Sun.{Sun}
use Rattle.lc_light.specs.declared.source.Source.{Source}
use Rattle.lc_light.specs.declared.source.Source.TheVariants as source
use Rattle.lc_light.specs.declared.keyword.Keyword.{Keyword}
use Rattle.lc_light.specs.declared.keyword.Keyword.TheVariants as keyword
use Rattle.lc_light.specs.declared.fault_kind.FaultKind.{FaultKind}
use Rattle.lc_light.specs.declared.fault_kind.FaultKind.TheVariants as kind

-- ---- the source that a line names: its keyword is the first field, its values are the others

-- the keywords, each with its word
abbrev pub keywords : List (List ℕ × Keyword)
keywords = (codes "point", keyword.Point) ∷ (codes "sun", keyword.Sun) ∷ (codes "area", keyword.Area) ∷ []

-- the keyword that a field is, if it is one
unfoldable pub keyword_of : List ℕ → Option Keyword
keyword_of word = look_up keywords word

-- the k-th value as a number
abbrev pub number : ℕ → List (List ℕ) → Result ℤ NumFault
number k values = decimal_of (field_at k values)

-- the k-th value as a whole number
abbrev pub whole_number : ℕ → List (List ℕ) → Result ℕ NumFault
whole_number k values = whole_of (field_at k values)

-- three values from the k-th as a place or a direction
abbrev pub vector_at : ℕ → List (List ℕ) → Vec3
vector_at k values = record {
  x = units (number k values);
  y = units (number (k + 1) values);
  z = units (number (k + 2) values);
}

-- three values from the k-th as intensities
abbrev pub power_at : ℕ → List (List ℕ) → Power
power_at k values = record {
  r = unsigned_abs (units (number k values));
  g = unsigned_abs (units (number (k + 1) values));
  b = unsigned_abs (units (number (k + 2) values));
}

unfoldable pub point : List (List ℕ) → Omni
point values = record { place = vector_at 0 values; power = power_at 3 values }

unfoldable pub sun : List (List ℕ) → Sun
sun values = record { toward = scaled (vector_at 0 values) 16384; power = power_at 3 values }

unfoldable pub area : List (List ℕ) → Area
area values = record {
  corner = vector_at 0 values;
  along = vector_at 3 values;
  across = vector_at 6 values;
  power = power_at 9 values;
  count = value (whole_number 12 values);
}

abbrev pub source_by : Keyword → List (List ℕ) → Source
source_by keyword.Point values = source.Point (point values)
source_by keyword.Sun values = source.Sun (sun values)
source_by keyword.Area values = source.Area (area values)

-- the source of the fields of a line without a fault
unfoldable pub source_of : List (List ℕ) → Option Source
source_of [] = None
source_of (word ∷ values) = option_map (λ key. source_by key values) (keyword_of word)

-- ---- the tests; each gives its kind where it fails

abbrev pub number_test : Result ℤ NumFault → Option FaultKind
number_test (Err fault) = Some kind.Number
number_test (Ok z) = None

-- a coordinate is a number from -5000 to 5000
abbrev pub coordinate_test : Result ℤ NumFault → Option FaultKind
coordinate_test (Err fault) = Some kind.Number
coordinate_test (Ok z) = unless (is_coordinate z) kind.Range

-- an intensity is a number from 0 to 10000
abbrev pub intensity_test : Result ℤ NumFault → Option FaultKind
intensity_test (Err fault) = Some kind.Number
intensity_test (Ok (negsuc n)) = Some kind.Negative
intensity_test (Ok (pos n)) = unless (nat_le n 100000000) kind.Range

-- a number of samples is a whole number from 1 to 4096
abbrev pub samples_test : Result ℕ NumFault → Option FaultKind
samples_test (Err fault) = Some kind.Number
samples_test (Ok n) = unless (nat_lt 0 n && nat_le n 4096) kind.SampleCount

abbrev pub vector_tests : ℕ → List (List ℕ) → List (Option FaultKind)
vector_tests k values =
    coordinate_test (number k values) ∷ coordinate_test (number (k + 1) values)
    ∷ coordinate_test (number (k + 2) values) ∷ []

abbrev pub side_tests : ℕ → List (List ℕ) → List (Option FaultKind)
side_tests k values =
    number_test (number k values) ∷ number_test (number (k + 1) values) ∷ number_test (number (k + 2) values) ∷ []

abbrev pub power_tests : ℕ → List (List ℕ) → List (Option FaultKind)
power_tests k values =
    intensity_test (number k values) ∷ intensity_test (number (k + 1) values)
    ∷ intensity_test (number (k + 2) values) ∷ []

-- a direction is not zero
abbrev pub direction_test : Vec3 → Option FaultKind
direction_test v = unless (nat_lt 0 (square v)) kind.NoDirection

-- the values of an area light from the left
unfoldable pub area_tests : List (List ℕ) → List (Option FaultKind)
area_tests values =
    vector_tests 0 values
    ++ (side_tests 3 values
    ++ (side_tests 6 values ++ (power_tests 9 values ++ samples_test (whole_number 12 values) ∷ [])))

-- an area light has its corners in range and spans an area
abbrev pub shape_tests : Area → List (Option FaultKind)
shape_tests a = unless (has_places a) kind.Range ∷ unless (spans a) kind.NoArea ∷ []

-- the tests of the values of each keyword, in their order
unfoldable pub value_tests : Keyword → List (List ℕ) → List (Option FaultKind)
value_tests keyword.Point values = vector_tests 0 values ++ power_tests 3 values
value_tests keyword.Sun values =
    vector_tests 0 values ++ (power_tests 3 values ++ direction_test (vector_at 0 values) ∷ [])
value_tests keyword.Area values = area_tests values ++ shape_tests (area values)

abbrev pub value_count : Keyword → ℕ
value_count keyword.Point = 6
value_count keyword.Sun = 6
value_count keyword.Area = 13

-- the number of the lights so far and of this source is at most 65,536
abbrev pub room_test : ℕ → Source → Option FaultKind
room_test so_far s = unless (nat_le (so_far + count s) 65536) kind.TooMany

-- the tests of a line with a known keyword, in their order
abbrev pub tests : ℕ → Keyword → List (List ℕ) → List (Option FaultKind)
tests so_far key values =
    unless (length values == value_count key) kind.FieldCount
    ∷ (value_tests key values ++ room_test so_far (source_by key values) ∷ [])

abbrev pub kind_by : Option Keyword → ℕ → List (List ℕ) → Option FaultKind
kind_by None so_far values = Some kind.Keyword
kind_by (Some key) so_far values = first_kind (tests so_far key values)

-- the kind of the first test that the fields of a line fail, after so many lights
unfoldable pub kind_of : ℕ → List (List ℕ) → Option FaultKind
kind_of so_far [] = None
kind_of so_far (word ∷ values) = kind_by (keyword_of word) so_far values
