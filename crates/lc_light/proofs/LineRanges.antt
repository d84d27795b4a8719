-- A line without a fault names a source within its ranges.
use Rattle.std.proofs.Common.{◌≡◌, ℕ, ◌+◌, ◌≤◌, List, [], ◌∷◌, ◌++◌, length, Option, Some, None, option_map, subst, arith, ℤ, pos, negsuc, unsigned_abs, nat_le, nat_lt, eqb, ◌&&◌}
use Rattle.std.specs.Prelude.{Result, Ok, Err}
use Rattle.lc_scan.specs.declared.fault.NumFault.{NumFault}
use Rattle.std.proofs.lemmas.Bool.{leb-true, ltb-true, and_parts}
use Rattle.lc_num.specs.Vectors.{Within}
use Rattle.lc_num.specs.Channels.{IsPowerWithin}
use Rattle.lc_num.proofs.ScaledLemmas.{scaled_within}
use Rattle.lc_light.specs.Areas.{IsArea, has_places}
use Rattle.lc_light.specs.Lights.{IsOmni, IsSun}
use Rattle.lc_light.specs.Sources.{IsSource, count}
use Rattle.lc_light.specs.declared.keyword.Keyword.{Keyword}
use Rattle.lc_light.specs.declared.keyword.Keyword.TheVariants as keyword
use Rattle.lc_light.specs.declared.source.Source.{Source}
use Rattle.lc_scan.specs.Decimal.{units}
use Rattle.lc_scan.specs.LineTests.{first_kind, unless}
use Rattle.lc_scan.specs.Whole.{value}
use Rattle.lc_light.specs.LightLine.{number, whole_number, coordinate_test, intensity_test, samples_test, vector_tests, side_tests, power_tests, direction_test, shape_tests, area_tests, value_tests, value_count, room_test, vector_at, power_at, point, sun, area, source_by, source_of, keyword_of, kind_by, kind_of}
use Rattle.lc_scan.proofs.LineTestLemmas.{both_passed, cons_both_passed, unless_passed}
use Rattle.lc_light.proofs.AreaLemmas.{corners_within}

coordinate_range : (o : Result ℤ NumFault) → coordinate_test o ≡ None → unsigned_abs (units o) ≤ 50_000_000
coordinate_range (Err e) h = absurd cc
coordinate_range (Ok z) h = leb-true _ _ (unless_passed (nat_le (unsigned_abs z) 50000000) _ h)

intensity_range : (o : Result ℤ NumFault) → intensity_test o ≡ None → unsigned_abs (units o) ≤ 100_000_000
intensity_range (Err e) h = absurd cc
intensity_range (Ok (negsuc n)) h = absurd cc
intensity_range (Ok (pos n)) h = leb-true _ _ (unless_passed (nat_le n 100000000) _ h)

samples_range : (o : Result ℕ NumFault) → samples_test o ≡ None → (1 ≤ value o) × (value o ≤ 4096)
samples_range (Err e) h = absurd cc
samples_range (Ok n) h =
    let p = and_parts (nat_lt 0 n) (nat_le n 4096) (unless_passed (nat_lt 0 n && nat_le n 4096) _ h) in
    (omega (arith, ltb-true 0 n p.0), leb-true _ _ p.1)

vector_range : (k : ℕ) (values : List (List ℕ)) → first_kind (vector_tests k values) ≡ None → Within 50_000_000 (vector_at k values)
vector_range k values h =
    let x = cons_both_passed (coordinate_test (number k values)) _ h in
    let y = cons_both_passed (coordinate_test (number (k + 1) values)) _ x.1 in
    let z = cons_both_passed (coordinate_test (number (k + 2) values)) _ y.1 in
    record { x = coordinate_range (number k values) x.0; y = coordinate_range (number (k + 1) values) y.0; z = coordinate_range (number (k + 2) values) z.0 }

power_range : (k : ℕ) (values : List (List ℕ)) → first_kind (power_tests k values) ≡ None → IsPowerWithin 100_000_000 (power_at k values)
power_range k values h =
    let r = cons_both_passed (intensity_test (number k values)) _ h in
    let g = cons_both_passed (intensity_test (number (k + 1) values)) _ r.1 in
    let b = cons_both_passed (intensity_test (number (k + 2) values)) _ g.1 in
    record { r = intensity_range (number k values) r.0; g = intensity_range (number (k + 1) values) g.0; b = intensity_range (number (k + 2) values) b.0 }

point_range : (values : List (List ℕ)) → first_kind (value_tests keyword.Point values) ≡ None → IsOmni (point values)
unfolding value_tests point
point_range values h =
    let p = both_passed (vector_tests 0 values) (power_tests 3 values) h in
    record { place = vector_range 0 values p.0; power = power_range 3 values p.1 }

sun_range : (values : List (List ℕ)) → first_kind (value_tests keyword.Sun values) ≡ None → IsSun (sun values)
unfolding value_tests sun
sun_range values h =
    let p = both_passed (vector_tests 0 values) (power_tests 3 values ++ direction_test (vector_at 0 values) ∷ []) h in
    let q = both_passed (power_tests 3 values) (direction_test (vector_at 0 values) ∷ []) p.1 in
    record { toward = scaled_within (vector_at 0 values) 16384; power = power_range 3 values q.0 }

area_range : (values : List (List ℕ)) → first_kind (value_tests keyword.Area values) ≡ None → IsArea (area values)
unfolding value_tests area_tests area
area_range values h =
    let parts = both_passed (area_tests values) (shape_tests (area values)) h in
    let corner = both_passed (vector_tests 0 values) _ parts.0 in
    let along = both_passed (side_tests 3 values) _ corner.1 in
    let across = both_passed (side_tests 6 values) _ along.1 in
    let power = both_passed (power_tests 9 values) (samples_test (whole_number 12 values) ∷ []) across.1 in
    let samples = samples_range (whole_number 12 values) (cons_both_passed (samples_test (whole_number 12 values)) [] power.1).0 in
    let shape = cons_both_passed (unless (has_places (area values)) _) _ parts.1 in
    let corners = corners_within (area values) (unless_passed (has_places (area values)) _ shape.0) in
    record {
      corner = vector_range 0 values corner.0;
      along_end = corners.along_end;
      across_end = corners.across_end;
      opposite = corners.opposite;
      power = power_range 9 values power.0;
      some = samples.0;
      few = samples.1;
    }

source_range : (key : Keyword) (values : List (List ℕ)) → first_kind (value_tests key values) ≡ None → IsSource (source_by key values)
source_range keyword.Point values h = point_range values h
source_range keyword.Sun values h = sun_range values h
source_range keyword.Area values h = area_range values h

-- what a line without a fault says of its source
pub record Fine (so_far : ℕ) (made : Source) : Type 0 where
  pub range : IsSource made
  pub room : so_far + count made ≤ 65536

fine_by : (so_far : ℕ) (key : Option Keyword) (values : List (List ℕ)) (made : Source) → kind_by key so_far values ≡ None → option_map (λ (k : Keyword). source_by k values) key ≡ Some made → Fine so_far made
fine_by so_far None values made h e = absurd cc
fine_by so_far (Some key) values made h e =
    let same : source_by key values ≡ made = cc in
    let a = cons_both_passed (unless (eqb (length values) (value_count key)) _) _ h in
    let b = both_passed (value_tests key values) (room_test so_far (source_by key values) ∷ []) a.1 in
    let room = cons_both_passed (room_test so_far (source_by key values)) [] b.1 in
    record {
      range = subst IsSource same (source_range key values b.0);
      room = subst (λ (s : Source). so_far + count s ≤ 65536) same (leb-true _ _ (unless_passed (nat_le (so_far + count (source_by key values)) 65536) _ room.0));
    }

pub fine : (so_far : ℕ) (fs : List (List ℕ)) (made : Source) → kind_of so_far fs ≡ None → source_of fs ≡ Some made → Fine so_far made
unfolding kind_of source_of
fine so_far [] made h e = absurd cc
fine so_far (word ∷ values) made h e = fine_by so_far (keyword_of word) values made h e
