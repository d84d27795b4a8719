-- The corners of a face.
use Rattle.std.proofs.Common.{◌≡◌, ℕ, ◌-◌, ◌<◌, ◌≤◌, ◌≢◌, Bool, true, false, cond, eqb, ltb, List, [], ◌∷◌, length, get_or, Option, Some, None, refl, sym, ap, ◌∙◌, arith}
use Rattle.std.specs.Prelude.{All, option_map, IfSome}
use Rattle.std.specs.List.{before_first, after_first, position_or_len, slice_split}
use Rattle.std.proofs.lemmas.List.Splits.{slice_split_first, slice_split_none, length-slice_split}
use Rattle.std.proofs.lemmas.List.Sums.{fails_before_first}
use Rattle.std.proofs.lemmas.List.Elements.{All-get_or, All-from_get_or}
use Rattle.std.proofs.lemmas.Bool.{ltb-false}
use Rattle.lc_num.specs.declared.vectors.Vec3.{Vec3}
use Rattle.lc_num.specs.Vectors.{Within, zero_vector}
use Rattle.lc_obj.specs.declared.index.Index.{Index}
use Rattle.lc_obj.specs.declared.index.Indices.{Indices}
use Rattle.lc_obj.specs.declared.corner.Corner.{Corner}
use Rattle.lc_obj.specs.declared.tables.Tables.{Tables}
use Rattle.lc_obj.specs.Corners.{is_slash, index_test, optional_test, place_of, indices_in, tests_by, corner_tests, corner_by, corner_of, indices_of, AreTables}
use Rattle.lc_scan.specs.LineTests.{first_kind}
use Rattle.lc_scan.proofs.LineTestLemmas.{cons_both_passed}

-- ---- parts between slashes

pub one_part : (text : List ℕ) → position_or_len is_slash text ≡ length text → slice_split is_slash text ≡ text ∷ []
one_part text e =
    slice_split_none is_slash text (All-from_get_or (λ (b : ℕ). is_slash b ≡ false) text 0 (λ k lt. fails_before_first is_slash text k 0 (omega arith)))

pub two_parts : (text before after : List ℕ) (k : ℕ) → (position_or_len is_slash text ≡ k) × (k < length text) → before ≡ before_first is_slash text → after ≡ after_first is_slash text → slice_split is_slash text ≡ before ∷ slice_split is_slash after
two_parts text before after k p b a =
    slice_split_first is_slash text 0 (omega (arith, p.0, p.1)) ∙ ap (λ (x : List ℕ). x ∷ slice_split is_slash (after_first is_slash text)) (sym b) ∙ ap (λ (x : List ℕ). before ∷ slice_split is_slash x) (sym a)

some_parts : (text : List ℕ) → 0 < length (slice_split is_slash text)
some_parts text = omega (arith, length-slice_split is_slash text)

fourth : (v vt vn : List ℕ) (parts : List (List ℕ)) → 0 < length parts → indices_in (v ∷ vt ∷ vn ∷ parts) ≡ None
fourth v vt vn [] some = absurd (omega (arith, some))
fourth v vt vn (more ∷ later) some = refl

-- four parts are no corner
pub too_many_parts : (corner a b c v vt vn : List ℕ) → slice_split is_slash corner ≡ v ∷ slice_split is_slash a → slice_split is_slash a ≡ vt ∷ slice_split is_slash b → slice_split is_slash b ≡ vn ∷ slice_split is_slash c → indices_of corner ≡ None
unfolding indices_of
too_many_parts corner a b c v vt vn e f g =
    ap indices_in (e ∙ ap (λ (ps : List (List ℕ)). v ∷ ps) (f ∙ ap (λ (ps : List (List ℕ)). vt ∷ ps) g)) ∙ fourth v vt vn (slice_split is_slash c) (some_parts c)

-- ---- what indices name

index_by_tests : (given : ℕ) (i : Index) (zero beyond : Bool) → eqb i.size 0 ≡ zero → ltb given i.size ≡ beyond → index_test given i ≡ None → place_of given i < given
index_by_tests given i true beyond e f h = absurd cc
index_by_tests given i false true e f h = absurd cc
index_by_tests given i false false e f h = by_side i.back refl
  where
    small : i.size ≤ given
    small = ltb-false given i.size f

    some : i.size ≢ 0
    some = λ z. absurd cc

    by_side : (back : Bool) → i.back ≡ back → cond back (given - i.size) (i.size - 1) < given
    by_side true b = omega (arith, small, some)
    by_side false b = omega (arith, small, some)

pub index_within : (given : ℕ) (i : Index) → index_test given i ≡ None → place_of given i < given
index_within given i h = index_by_tests given i (eqb i.size 0) (ltb given i.size) refl refl h

-- the place of a corner is within the range of places, and its normal within that of normals
pub record IsCorner (corner : Corner) : Type 0 where
  pub place : Within 50_000_000 corner.place
  pub normal : IfSome corner.normal (Within 16384)

normal_within : (given : List Vec3) (i : Option Index) → All (Within 16384) given → optional_test (length given) i ≡ None → IfSome (option_map (λ (k : Index). get_or given (place_of (length given) k) zero_vector) i) (Within 16384)
normal_within given None all h = tt
normal_within given (Some i) all h = All-get_or (Within 16384) given (place_of (length given) i) zero_vector (index_within (length given) i h) all

corner_by_indices : (given : Tables) (o : Option Indices) → AreTables given → first_kind (tests_by given o) ≡ None → IsCorner (corner_by given o)
corner_by_indices given None valid h = absurd cc
corner_by_indices given (Some i) valid h =
    let place = cons_both_passed (index_test (length given.places) i.place) _ h in
    let uv = cons_both_passed (optional_test (length given.uvs) i.uv) _ place.1 in
    let normal = cons_both_passed (optional_test (length given.normals) i.normal) _ uv.1 in
    record {
      place = All-get_or (Within 50_000_000) given.places (place_of (length given.places) i.place) zero_vector (index_within (length given.places) i.place place.0) valid.places;
      normal = normal_within given.normals i.normal valid.normals normal.0;
    }

pub corner_valid : (given : Tables) (corner : List ℕ) → AreTables given → first_kind (corner_tests given corner) ≡ None → IsCorner (corner_of given corner)
unfolding corner_tests corner_of
corner_valid given corner valid h = corner_by_indices given (indices_of corner) valid h
