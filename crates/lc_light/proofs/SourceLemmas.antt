-- The tests of a line, as its values are read one after the other.
use Rattle.std.proofs.Common.{◌≡◌, ℕ, ◌+◌, ◌<◌, ◌≤◌, ◌≢◌, Bool, true, false, cond, eqb, leb, List, [], ◌∷◌, ◌++◌, length, drop, Option, Some, None, option_map, refl, ap, ◌∙◌, arith, nat_lt}
use Rattle.std.specs.Prelude.{Result}
use Rattle.lc_scan.specs.declared.fault.NumFault.{NumFault}
use Rattle.std.proofs.lemmas.List.{drop-drop}
use Rattle.std.proofs.lemmas.Bool.{ne_eqb, eq-eqb, le-leb, lt-leb}
use Rattle.lc_num.specs.declared.vectors.Vec3.{Vec3}
use Rattle.lc_num.specs.declared.channels.Power.{Power}
use Rattle.lc_num.specs.Vectors.{square}
use Rattle.lc_num.specs.Cosines.{scaled}
use Rattle.lc_light.specs.Areas.{has_places, spans}
use Rattle.lc_light.specs.declared.area.Area.{Area}
use Rattle.lc_light.specs.declared.keyword.Keyword.{Keyword}
use Rattle.lc_light.specs.declared.keyword.Keyword.TheVariants as keyword
use Rattle.lc_light.specs.declared.fault_kind.FaultKind.{FaultKind}
use Rattle.lc_light.specs.declared.fault_kind.FaultKind.TheVariants as kind
use Rattle.lc_light.specs.declared.source.Source.{Source}
use Rattle.lc_light.specs.Sources.{count}
use Rattle.lc_scan.specs.LineTests.{first_kind, unless}
use Rattle.lc_scan.specs.Whole.{value}
use Rattle.lc_light.specs.LightLine.{whole_number, vector_tests, side_tests, power_tests, samples_test, direction_test, area_tests, shape_tests, vector_at, power_at, value_tests, value_count, tests, room_test, point, sun, area, source_by, source_of, keyword_of, kind_by, kind_of}
use Rattle.lc_scan.proofs.LineTestLemmas.{found, passed, first_kind-unless}
use Rattle.lc_light.proofs.ValueLemmas.{side_tests_after, power_tests_after, vector_after, power_after, whole_after}

-- ---- points and suns

-- a place or a direction is read, and the intensities stand in the rest
pub record HasVector (values rest : List (List ℕ)) : Type 0 where
  pub vector : first_kind (vector_tests 0 values) ≡ None
  pub rest_is : rest ≡ drop 3 values

-- the tests from the intensities on
from_power : (values rest : List (List ℕ)) (later : List (Option FaultKind)) → HasVector values rest → first_kind (vector_tests 0 values ++ (power_tests 3 values ++ later)) ≡ first_kind (power_tests 0 rest ++ later)
from_power values rest later h =
    passed (vector_tests 0 values) (power_tests 3 values ++ later) h.vector
    ∙ ap (λ (ts : List (Option FaultKind)). first_kind (ts ++ later)) (power_tests_after 3 values rest h.rest_is)

pub wrong_vector : (key : Keyword) (values : List (List ℕ)) (k : FaultKind) → first_kind (vector_tests 0 values) ≡ Some k → first_kind (value_tests key values) ≡ Some k
unfolding value_tests area_tests
wrong_vector keyword.Point values k e = found (vector_tests 0 values) _ k e
wrong_vector keyword.Sun values k e = found (vector_tests 0 values) _ k e
wrong_vector keyword.Area values k e = found (area_tests values) _ k (found (vector_tests 0 values) _ k e)

pub point_power : (values rest : List (List ℕ)) (k : FaultKind) → HasVector values rest → first_kind (power_tests 0 rest) ≡ Some k → first_kind (value_tests keyword.Point values) ≡ Some k
unfolding value_tests
point_power values rest k h p = passed (vector_tests 0 values) (power_tests 3 values) h.vector ∙ ap first_kind (power_tests_after 3 values rest h.rest_is) ∙ p

pub point_passes : (values rest : List (List ℕ)) → HasVector values rest → first_kind (power_tests 0 rest) ≡ None → first_kind (value_tests keyword.Point values) ≡ None
unfolding value_tests
point_passes values rest h p = passed (vector_tests 0 values) (power_tests 3 values) h.vector ∙ ap first_kind (power_tests_after 3 values rest h.rest_is) ∙ p

pub point_is : (values rest : List (List ℕ)) (place : Vec3) (power : Power) → rest ≡ drop 3 values → vector_at 0 values ≡ place → power_at 0 rest ≡ power → point values ≡ record { place = place; power = power }
unfolding point
point_is values rest place power e v p = ap (λ (w : Vec3). record { place = w; power = power_at 3 values }) v ∙ ap (λ (q : Power). record { place = place; power = q }) (power_after 3 values rest e ∙ p)

pub sun_power : (values rest : List (List ℕ)) (k : FaultKind) → HasVector values rest → first_kind (power_tests 0 rest) ≡ Some k → first_kind (value_tests keyword.Sun values) ≡ Some k
unfolding value_tests
sun_power values rest k h p =
    from_power values rest (direction_test (vector_at 0 values) ∷ []) h ∙ found (power_tests 0 rest) (direction_test (vector_at 0 values) ∷ []) k p

sun_last : (values rest : List (List ℕ)) (direction : Vec3) → HasVector values rest → first_kind (power_tests 0 rest) ≡ None → vector_at 0 values ≡ direction → first_kind (value_tests keyword.Sun values) ≡ first_kind (direction_test direction ∷ [])
unfolding value_tests
sun_last values rest direction h p v =
    from_power values rest (direction_test (vector_at 0 values) ∷ []) h ∙ passed (power_tests 0 rest) (direction_test (vector_at 0 values) ∷ []) p
    ∙ ap (λ (w : Vec3). first_kind (direction_test w ∷ [])) v

pub sun_zero : (values rest : List (List ℕ)) (direction : Vec3) → HasVector values rest → first_kind (power_tests 0 rest) ≡ None → vector_at 0 values ≡ direction → nat_lt 0 (square direction) ≡ false → first_kind (value_tests keyword.Sun values) ≡ Some kind.NoDirection
sun_zero values rest direction h p v z = sun_last values rest direction h p v ∙ first_kind-unless (nat_lt 0 (square direction)) false kind.NoDirection [] z

pub sun_passes : (values rest : List (List ℕ)) (direction : Vec3) → HasVector values rest → first_kind (power_tests 0 rest) ≡ None → vector_at 0 values ≡ direction → nat_lt 0 (square direction) ≡ true → first_kind (value_tests keyword.Sun values) ≡ None
sun_passes values rest direction h p v z = sun_last values rest direction h p v ∙ first_kind-unless (nat_lt 0 (square direction)) true kind.NoDirection [] z

pub sun_is : (values rest : List (List ℕ)) (direction : Vec3) (power : Power) → rest ≡ drop 3 values → vector_at 0 values ≡ direction → power_at 0 rest ≡ power → sun values ≡ record { toward = scaled direction 16384; power = power }
unfolding sun
sun_is values rest direction power e v p = ap (λ (w : Vec3). record { toward = scaled w 16384; power = power_at 3 values }) v ∙ ap (λ (q : Power). record { toward = scaled direction 16384; power = q }) (power_after 3 values rest e ∙ p)

-- ---- areas

-- the corner and the sides are read
pub record HasSides (values first second rest : List (List ℕ)) : Type 0 where
  pub corner : first_kind (vector_tests 0 values) ≡ None
  pub along : first_kind (side_tests 0 first) ≡ None
  pub across : first_kind (side_tests 0 second) ≡ None
  pub first_is : first ≡ drop 3 values
  pub second_is : second ≡ drop 3 first
  pub rest_is : rest ≡ drop 3 second

second_place : (values first second : List (List ℕ)) → first ≡ drop 3 values → second ≡ drop 3 first → second ≡ drop 6 values
second_place values first second e f = f ∙ ap (drop 3) e ∙ drop-drop 3 3 values

third_place : (values first second rest : List (List ℕ)) → first ≡ drop 3 values → second ≡ drop 3 first → rest ≡ drop 3 second → rest ≡ drop 9 values
third_place values first second rest e f g = g ∙ ap (drop 3) (second_place values first second e f) ∙ drop-drop 3 6 values

abbrev count_test : List (List ℕ) → List (Option FaultKind)
count_test values = samples_test (whole_number 12 values) ∷ []

pub area_corner : (values : List (List ℕ)) (k : FaultKind) → first_kind (vector_tests 0 values) ≡ Some k → first_kind (area_tests values) ≡ Some k
unfolding area_tests
area_corner values k e = found (vector_tests 0 values) _ k e

pub area_along : (values first : List (List ℕ)) (k : FaultKind) → first_kind (vector_tests 0 values) ≡ None → first ≡ drop 3 values → first_kind (side_tests 0 first) ≡ Some k → first_kind (area_tests values) ≡ Some k
unfolding area_tests
area_along values first k p e s =
    let late = side_tests 6 values ++ (power_tests 9 values ++ count_test values) in
    passed (vector_tests 0 values) (side_tests 3 values ++ late) p ∙ ap (λ (ts : List (Option FaultKind)). first_kind (ts ++ late)) (side_tests_after 3 values first e)
    ∙ found (side_tests 0 first) late k s

to_across : (values first second : List (List ℕ)) → first_kind (vector_tests 0 values) ≡ None → first ≡ drop 3 values → first_kind (side_tests 0 first) ≡ None → second ≡ drop 3 first
    → first_kind (area_tests values) ≡ first_kind (side_tests 0 second ++ (power_tests 9 values ++ count_test values))
unfolding area_tests
to_across values first second p e s f =
    let late = power_tests 9 values ++ count_test values in
    passed (vector_tests 0 values) (side_tests 3 values ++ (side_tests 6 values ++ late)) p
    ∙ ap (λ (ts : List (Option FaultKind)). first_kind (ts ++ (side_tests 6 values ++ late))) (side_tests_after 3 values first e)
    ∙ passed (side_tests 0 first) (side_tests 6 values ++ late) s
    ∙ ap (λ (ts : List (Option FaultKind)). first_kind (ts ++ late)) (side_tests_after 6 values second (second_place values first second e f))

pub area_across : (values first second : List (List ℕ)) (k : FaultKind) → first_kind (vector_tests 0 values) ≡ None → first ≡ drop 3 values → first_kind (side_tests 0 first) ≡ None → second ≡ drop 3 first → first_kind (side_tests 0 second) ≡ Some k
    → first_kind (area_tests values) ≡ Some k
area_across values first second k p e s f h = to_across values first second p e s f ∙ found (side_tests 0 second) (power_tests 9 values ++ count_test values) k h

-- the tests from the intensities on
to_power : (values first second rest : List (List ℕ)) → HasSides values first second rest → first_kind (area_tests values) ≡ first_kind (power_tests 0 rest ++ count_test values)
to_power values first second rest h =
    to_across values first second h.corner h.first_is h.along h.second_is ∙ passed (side_tests 0 second) (power_tests 9 values ++ count_test values) h.across
    ∙ ap (λ (ts : List (Option FaultKind)). first_kind (ts ++ count_test values)) (power_tests_after 9 values rest (third_place values first second rest h.first_is h.second_is h.rest_is))

pub area_power : (values first second rest : List (List ℕ)) (k : FaultKind) → HasSides values first second rest → first_kind (power_tests 0 rest) ≡ Some k → first_kind (area_tests values) ≡ Some k
area_power values first second rest k h p = to_power values first second rest h ∙ found (power_tests 0 rest) (count_test values) k p

-- the intensities are read too, and the number of samples stands in the rest
pub record HasPower (values first second third rest : List (List ℕ)) : Type 0 where
  pub sides : HasSides values first second third
  pub power : first_kind (power_tests 0 third) ≡ None
  pub rest_is : rest ≡ drop 3 third

fourth_place : (values first second third rest : List (List ℕ)) → HasPower values first second third rest → rest ≡ drop 12 values
fourth_place values first second third rest h =
    h.rest_is ∙ ap (drop 3) (third_place values first second third h.sides.first_is h.sides.second_is h.sides.rest_is) ∙ drop-drop 3 9 values

pub area_count : (values first second third rest : List (List ℕ)) → HasPower values first second third rest → first_kind (area_tests values) ≡ first_kind (samples_test (whole_number 0 rest) ∷ [])
area_count values first second third rest h =
    to_power values first second third h.sides ∙ passed (power_tests 0 third) (count_test values) h.power
    ∙ ap (λ (o : Result ℕ NumFault). first_kind (samples_test o ∷ [])) (whole_after 12 values rest (fourth_place values first second third rest h))

-- the values of an area light where they are read
pub record AreValues (values first second third rest : List (List ℕ)) (made : Area) : Type 0 where
  pub corner : vector_at 0 values ≡ made.corner
  pub along : vector_at 0 first ≡ made.along
  pub across : vector_at 0 second ≡ made.across
  pub power : power_at 0 third ≡ made.power
  pub count : value (whole_number 0 rest) ≡ made.count

same_area : (corner along across corner' along' across' : Vec3) (power power' : Power) (count count' : ℕ) → corner ≡ corner' → along ≡ along' → across ≡ across' → power ≡ power' → count ≡ count'
    → ◌≡◌ {A = Area} (record { corner = corner; along = along; across = across; power = power; count = count }) (record { corner = corner'; along = along'; across = across'; power = power'; count = count' })
same_area corner along across corner' along' across' power power' count count' e f g h k = cc

pub area_is : (values first second third rest : List (List ℕ)) (made : Area) → HasPower values first second third rest → AreValues values first second third rest made → area values ≡ made
unfolding area
area_is values first second third rest made h v =
    let s = h.sides in
    same_area _ _ _ _ _ _ _ _ _ _ v.corner
    (vector_after 3 values first s.first_is ∙ v.along)
    (vector_after 6 values second (second_place values first second s.first_is s.second_is) ∙ v.across)
    (power_after 9 values third (third_place values first second third s.first_is s.second_is s.rest_is) ∙ v.power)
    (ap value (whole_after 12 values rest (fourth_place values first second third rest h)) ∙ v.count)

pub area_value : (values : List (List ℕ)) (k : FaultKind) → first_kind (area_tests values) ≡ Some k → first_kind (value_tests keyword.Area values) ≡ Some k
unfolding value_tests
area_value values k e = found (area_tests values) (shape_tests (area values)) k e

-- the values of an area light are read
pub record HasArea (values : List (List ℕ)) (made : Area) : Type 0 where
  pub tests : first_kind (area_tests values) ≡ None
  pub area : area values ≡ made

shape_left : (values : List (List ℕ)) (made : Area) → HasArea values made → first_kind (value_tests keyword.Area values) ≡ first_kind (shape_tests made)
unfolding value_tests
shape_left values made h = passed (area_tests values) (shape_tests (area values)) h.tests ∙ ap (λ (a : Area). first_kind (shape_tests a)) h.area

two_tests : (b c x y : Bool) → b ≡ x → c ≡ y → first_kind (unless b kind.Range ∷ unless c kind.NoArea ∷ []) ≡ cond x (cond y None (Some kind.NoArea)) (Some kind.Range)
two_tests b c x y e f =
    first_kind-unless b x kind.Range (unless c kind.NoArea ∷ []) e
    ∙ ap (λ (o : Option FaultKind). cond x o (Some kind.Range)) (first_kind-unless c y kind.NoArea [] f)

pub area_corners : (values : List (List ℕ)) (made : Area) → HasArea values made → has_places made ≡ false → first_kind (value_tests keyword.Area values) ≡ Some kind.Range
area_corners values made h e = shape_left values made h ∙ two_tests (has_places made) (spans made) false (spans made) e refl

pub area_flat : (values : List (List ℕ)) (made : Area) → HasArea values made → has_places made ≡ true → spans made ≡ false → first_kind (value_tests keyword.Area values) ≡ Some kind.NoArea
area_flat values made h e f = shape_left values made h ∙ two_tests (has_places made) (spans made) true false e f

pub area_passes : (values : List (List ℕ)) (made : Area) → HasArea values made → has_places made ≡ true → spans made ≡ true → first_kind (value_tests keyword.Area values) ≡ None
area_passes values made h e f = shape_left values made h ∙ two_tests (has_places made) (spans made) true true e f

-- ---- whole lines

pub no_keyword : (n : ℕ) (fs values : List (List ℕ)) (word : List ℕ) → fs ≡ word ∷ values → keyword_of word ≡ None → kind_of n fs ≡ Some kind.Keyword
unfolding kind_of
no_keyword n fs values word e k = ap (kind_of n) e ∙ ap (λ (o : Option Keyword). kind_by o n values) k

-- a line with a known keyword
pub record HasKeyword (fs values : List (List ℕ)) (word : List ℕ) (key : Keyword) : Type 0 where
  pub fields : fs ≡ word ∷ values
  pub keyword : keyword_of word ≡ Some key

by_keyword : (n : ℕ) (fs values : List (List ℕ)) (word : List ℕ) (key : Keyword) → HasKeyword fs values word key → kind_of n fs ≡ first_kind (tests n key values)
unfolding kind_of
by_keyword n fs values word key h = ap (kind_of n) h.fields ∙ ap (λ (o : Option Keyword). kind_by o n values) h.keyword

pub source_is : (fs values : List (List ℕ)) (word : List ℕ) (key : Keyword) (made : Source) → HasKeyword fs values word key → source_by key values ≡ made → source_of fs ≡ Some made
unfolding source_of
source_is fs values word key made h e =
    ap source_of h.fields ∙ ap (λ (o : Option Keyword). option_map (λ (k : Keyword). source_by k values) o) h.keyword ∙ ap (λ (s : Source). Some s) e

values_left : (fs values : List (List ℕ)) (word : List ℕ) → fs ≡ word ∷ values → length fs ≡ 1 + length values
values_left fs values word e = omega (arith, ap (λ (ws : List (List ℕ)). length ws) e)

pub wrong_count : (n : ℕ) (fs values : List (List ℕ)) (word : List ℕ) (key : Keyword) → HasKeyword fs values word key → length fs ≢ 1 + value_count key → kind_of n fs ≡ Some kind.FieldCount
wrong_count n fs values word key h ne =
    by_keyword n fs values word key h
    ∙ first_kind-unless (eqb (length values) (value_count key)) false kind.FieldCount _ (ne_eqb _ _ (λ same. ne (values_left fs values word h.fields ∙ ap (λ m. 1 + m) same)))

-- a line with a known keyword and the right number of fields
pub record HasValues (fs values : List (List ℕ)) (word : List ℕ) (key : Keyword) : Type 0 where
  pub keyword : HasKeyword fs values word key
  pub count : length fs ≡ 1 + value_count key

pub enough : (fs values : List (List ℕ)) (word : List ℕ) (key : Keyword) → HasValues fs values word key → length values ≡ value_count key
enough fs values word key h = omega (arith, values_left fs values word h.keyword.fields, h.count)

by_values : (n : ℕ) (fs values : List (List ℕ)) (word : List ℕ) (key : Keyword) → HasValues fs values word key → kind_of n fs ≡ first_kind (value_tests key values ++ room_test n (source_by key values) ∷ [])
by_values n fs values word key h =
    by_keyword n fs values word key h.keyword
    ∙ first_kind-unless (eqb (length values) (value_count key)) true kind.FieldCount _ (eq-eqb _ _ (enough fs values word key h))

pub wrong_value : (n : ℕ) (fs values : List (List ℕ)) (word : List ℕ) (key : Keyword) (k : FaultKind) → HasValues fs values word key → first_kind (value_tests key values) ≡ Some k → kind_of n fs ≡ Some k
wrong_value n fs values word key k h e = by_values n fs values word key h ∙ found (value_tests key values) _ k e

by_room : (n : ℕ) (fs values : List (List ℕ)) (word : List ℕ) (key : Keyword) (made : Source) (x : Bool) → HasValues fs values word key → first_kind (value_tests key values) ≡ None → source_by key values ≡ made → leb (n + count made) 65536 ≡ x
    → kind_of n fs ≡ cond x None (Some kind.TooMany)
by_room n fs values word key made x h e s r =
    by_values n fs values word key h ∙ passed (value_tests key values) (room_test n (source_by key values) ∷ []) e
    ∙ ap (λ (found : Source). first_kind (room_test n found ∷ [])) s ∙ first_kind-unless (leb (n + count made) 65536) x kind.TooMany [] r

pub no_room : (n : ℕ) (fs values : List (List ℕ)) (word : List ℕ) (key : Keyword) (made : Source) → HasValues fs values word key → first_kind (value_tests key values) ≡ None → source_by key values ≡ made → 65536 < n + count made → kind_of n fs ≡ Some kind.TooMany
no_room n fs values word key made h e s lt = by_room n fs values word key made false h e s (lt-leb _ _ lt)

pub no_fault : (n : ℕ) (fs values : List (List ℕ)) (word : List ℕ) (key : Keyword) (made : Source) → HasValues fs values word key → first_kind (value_tests key values) ≡ None → source_by key values ≡ made → n + count made ≤ 65536 → kind_of n fs ≡ None
no_fault n fs values word key made h e s le = by_room n fs values word key made true h e s (le-leb _ _ le)
