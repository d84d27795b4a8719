-- The fan of a face, as its corners are read one after the other.
use Rattle.std.proofs.Common.{◌≡◌, ℕ, ◌+◌, ◌-◌, ◌<◌, ◌≤◌, List, [], ◌∷◌, ◌++◌, length, drop, Some, None, refl, sym, ap, ◌∙◌, append_assoc, arith}
use Rattle.std.specs.Prelude.{filter, map, flat_map}
use Rattle.std.specs.List.{zip}
use Rattle.std.proofs.lemmas.List.{append-nil}
use Rattle.std.proofs.lemmas.List.Elements.{filter-append}
use Rattle.lc_num.specs.Vectors.{Within}
use Rattle.lc_geom.specs.Triangles.{IsTri}
use Rattle.lc_obj.specs.declared.fault_kind.FaultKind.{FaultKind}
use Rattle.lc_obj.specs.declared.fault_kind.FaultKind.TheVariants as kind
use Rattle.lc_obj.specs.declared.corner.Corner.{Corner}
use Rattle.lc_obj.specs.declared.mesh.Face.{Face}
use Rattle.lc_obj.specs.declared.stop.LineStop.{LineStop}
use Rattle.lc_obj.specs.declared.stop.LineStop.TheVariants as stop
use Rattle.lc_obj.specs.declared.tables.Tables.{Tables}
use Rattle.lc_obj.specs.Readings.{IsLineStop}
use Rattle.lc_obj.specs.Corners.{AreTables, corner_of, corner_tests}
use Rattle.lc_scan.specs.LineTests.{first_kind}
use Rattle.lc_scan.specs.Fields.{field_at}
use Rattle.lc_obj.specs.ObjLine.{corners_tests, count_test, face, face_tests, faces_in, is_kept, room_test}
use Rattle.lc_scan.proofs.LineTestLemmas.{found, passed, cons_passed, cons_found}
use Rattle.lc_obj.proofs.CornerLemmas.{corner_valid}
use Rattle.lc_obj.proofs.ValueLemmas.{enough, too_few, has_room, no_room}

-- ---- the corners

pub corner_passed : (given : Tables) (vs later : List (List ℕ)) (v : List ℕ) → vs ≡ v ∷ later → first_kind (corner_tests given v) ≡ None → first_kind (corners_tests given vs) ≡ first_kind (corners_tests given later)
unfolding corners_tests
corner_passed given vs later v e h =
    ap (λ (ws : List (List ℕ)). first_kind (flat_map (corner_tests given) ws)) e ∙ passed (corner_tests given v) (flat_map (corner_tests given) later) h

pub corner_wrong : (given : Tables) (vs later : List (List ℕ)) (v : List ℕ) (k : FaultKind) → vs ≡ v ∷ later → first_kind (corner_tests given v) ≡ Some k → first_kind (corners_tests given vs) ≡ Some k
unfolding corners_tests
corner_wrong given vs later v k e h =
    ap (λ (ws : List (List ℕ)). first_kind (flat_map (corner_tests given) ws)) e ∙ found (corner_tests given v) (flat_map (corner_tests given) later) k h

pub no_corners : (given : Tables) (vs : List (List ℕ)) → vs ≡ [] → first_kind (corners_tests given vs) ≡ None
unfolding corners_tests
no_corners given vs e = ap (λ (ws : List (List ℕ)). first_kind (flat_map (corner_tests given) ws)) e

pub first_of : (vs later : List (List ℕ)) → 0 < length vs → later ≡ drop 1 vs → vs ≡ field_at 0 vs ∷ later
first_of [] later some e = absurd (omega (arith, some))
first_of (v ∷ vs) later some e = ap (λ (ws : List (List ℕ)). v ∷ ws) (sym e)

-- ---- the fan

-- the faces from here on: that of the first corner, the previous one and the next, and so on
abbrev pub fan_from : Tables → ℕ → Corner → Corner → List (List ℕ) → List Face
fan_from given name first previous left =
    filter is_kept (map (face name first) (zip (previous ∷ map (corner_of given) left) (map (corner_of given) left)))

-- the faces held and those from here on are all of the line
pub record Fanned (given : Tables) (name : ℕ) (whole : List (List ℕ)) (before : List Face) (first previous : Corner) (left : List (List ℕ)) (held : List Face) : Type 0 where
  pub tests_are : first_kind (corners_tests given whole) ≡ first_kind (corners_tests given left)
  pub faces_are : before ++ faces_in given name whole ≡ held ++ fan_from given name first previous left
  pub first_in_range : Within 50_000_000 first.place
  pub previous_in_range : Within 50_000_000 previous.place

fan_of_three : (given : Tables) (name : ℕ) (whole left : List (List ℕ)) (v w : List ℕ) → whole ≡ v ∷ w ∷ left → faces_in given name whole ≡ fan_from given name (corner_of given v) (corner_of given w) left
unfolding faces_in
fan_of_three given name whole left v w e = ap (λ (vs : List (List ℕ)). faces_in given name vs) e

pub start : (given : Tables) (name : ℕ) (whole second left : List (List ℕ)) (before : List Face) (first previous : Corner) → AreTables given → 3 ≤ length whole → second ≡ drop 1 whole → left ≡ drop 1 second
    → (first_kind (corner_tests given (field_at 0 whole)) ≡ None) × (corner_of given (field_at 0 whole) ≡ first) → (first_kind (corner_tests given (field_at 0 second)) ≡ None) × (corner_of given (field_at 0 second) ≡ previous)
    → Fanned given name whole before first previous left before
start given name [] second left before first previous valid some e f a b = absurd (omega (arith, some))
start given name (v ∷ []) second left before first previous valid some e f a b = absurd (omega (arith, some))
start given name (v ∷ w ∷ vs) second left before first previous valid some e f a b =
    let same : left ≡ vs = f ∙ ap (drop 1) e in
    let at : field_at 0 second ≡ w = ap (field_at 0) e in
    let tests : first_kind (corner_tests given w) ≡ None = ap (λ (x : List ℕ). first_kind (corner_tests given x)) (sym at) ∙ b.0 in
    let is : corner_of given w ≡ previous = ap (corner_of given) (sym at) ∙ b.1 in
    record {
      tests_are = corner_passed given (v ∷ w ∷ vs) (w ∷ vs) v refl a.0 ∙ corner_passed given (w ∷ vs) vs w refl tests ∙ ap (λ (ws : List (List ℕ)). first_kind (corners_tests given ws)) (sym same);
      faces_are = ap (λ (fs : List Face). before ++ fs)
          (fan_of_three given name (v ∷ w ∷ vs) vs v w refl ∙ ap (λ (x : Corner). fan_from given name x (corner_of given w) vs) a.1 ∙ ap (λ (x : Corner). fan_from given name first x vs) is
          ∙ ap (λ (ws : List (List ℕ)). fan_from given name first previous ws) (sym same));
      first_in_range = rw (← a.1) (corner_valid given v valid a.0).place;
      previous_in_range = rw (← is) (corner_valid given w valid tests).place;
    }

one_face_more : (given : Tables) (name : ℕ) (first previous : Corner) (left later : List (List ℕ)) (v : List ℕ) (next : Corner) → left ≡ v ∷ later → corner_of given v ≡ next → fan_from given name first previous left ≡ filter is_kept (face name first (previous, next) ∷ []) ++ fan_from given name first next later
one_face_more given name first previous left later v next e f =
    ap (λ (ws : List (List ℕ)). fan_from given name first previous ws) e
    ∙ ap (λ (x : Corner). filter is_kept (map (face name first) (zip (previous ∷ x ∷ map (corner_of given) later) (x ∷ map (corner_of given) later)))) f
    ∙ filter-append is_kept (face name first (previous, next) ∷ []) (map (face name first) (zip (next ∷ map (corner_of given) later) (map (corner_of given) later)))

pub next_corner : (given : Tables) (name : ℕ) (whole : List (List ℕ)) (before : List Face) (first previous next : Corner) (left later : List (List ℕ)) (held more : List Face) (v : List ℕ) → AreTables given → left ≡ v ∷ later
    → (first_kind (corner_tests given v) ≡ None) × (corner_of given v ≡ next) → more ≡ held ++ filter is_kept (face name first (previous, next) ∷ []) → Fanned given name whole before first previous left held → Fanned given name whole before first next later more
next_corner given name whole before first previous next left later held more v valid e a m h =
    let one = filter is_kept (face name first (previous, next) ∷ []) in
    record {
      tests_are = h.tests_are ∙ corner_passed given left later v e a.0;
      faces_are = h.faces_are ∙ ap (λ (fs : List Face). held ++ fs) (one_face_more given name first previous left later v next e a.1)
          ∙ sym (append_assoc held one (fan_from given name first next later)) ∙ ap (λ (fs : List Face). fs ++ fan_from given name first next later) (sym m);
      first_in_range = h.first_in_range;
      previous_in_range = rw (← a.1) (corner_valid given v valid a.0).place;
    }

pub ends : (given : Tables) (name : ℕ) (whole : List (List ℕ)) (before : List Face) (first previous : Corner) (left : List (List ℕ)) (held : List Face) → left ≡ [] → Fanned given name whole before first previous left held
    → (first_kind (corners_tests given whole) ≡ None) × (held ≡ before ++ faces_in given name whole)
ends given name whole before first previous left held e h =
    (h.tests_are ∙ no_corners given left e, sym (h.faces_are ∙ ap (λ (ws : List (List ℕ)). held ++ fan_from given name first previous ws) e ∙ append-nil held))

pub face_in_range : (name : ℕ) (first previous next : Corner) → Within 50_000_000 first.place → Within 50_000_000 previous.place → Within 50_000_000 next.place → IsTri (face name first (previous, next)).tri
face_in_range name first previous next a b c = record { a = a; b = b; c = c }

-- ---- a line of a face

pub wrong_corner : (given : Tables) (so_far : ℕ) (vs : List (List ℕ)) (k : FaultKind) → 3 ≤ length vs → first_kind (corners_tests given vs) ≡ Some k → first_kind (face_tests given so_far vs) ≡ Some k
unfolding face_tests
wrong_corner given so_far vs k h e = cons_passed (count_test 3 kind.Face vs) _ (enough 3 kind.Face vs h) ∙ found (corners_tests given vs) _ k e

pub too_few_corners : (given : Tables) (so_far : ℕ) (vs : List (List ℕ)) → length vs < 3 → first_kind (face_tests given so_far vs) ≡ Some kind.Face
unfolding face_tests
too_few_corners given so_far vs h = cons_found (count_test 3 kind.Face vs) _ kind.Face (too_few 3 kind.Face vs h)

pub faces_left : (given : Tables) (so_far : ℕ) (vs : List (List ℕ)) → 3 ≤ length vs → first_kind (corners_tests given vs) ≡ None → first_kind (face_tests given so_far vs) ≡ first_kind (room_test so_far (length vs - 2) kind.Triangles ∷ [])
unfolding face_tests
faces_left given so_far vs h e = cons_passed (count_test 3 kind.Face vs) _ (enough 3 kind.Face vs h) ∙ passed (corners_tests given vs) _ e

pub face_passes : (given : Tables) (so_far : ℕ) (vs : List (List ℕ)) → 3 ≤ length vs → first_kind (corners_tests given vs) ≡ None → so_far + (length vs - 2) ≤ 1_000_000 → first_kind (face_tests given so_far vs) ≡ None
face_passes given so_far vs h e room = faces_left given so_far vs h e ∙ cons_passed (room_test so_far (length vs - 2) kind.Triangles) [] (has_room so_far (length vs - 2) kind.Triangles room)

pub no_room_for_face : (given : Tables) (so_far : ℕ) (vs : List (List ℕ)) → 3 ≤ length vs → first_kind (corners_tests given vs) ≡ None → 1_000_000 < so_far + (length vs - 2) → first_kind (face_tests given so_far vs) ≡ Some kind.Triangles
no_room_for_face given so_far vs h e room =
    faces_left given so_far vs h e ∙ cons_found (room_test so_far (length vs - 2) kind.Triangles) [] kind.Triangles (no_room so_far (length vs - 2) kind.Triangles room)

pub stops_at_corner : (given : Tables) (so_far : ℕ) (vs : List (List ℕ)) (s : LineStop) → 3 ≤ length vs → IsLineStop s (first_kind (corners_tests given vs)) → IsLineStop s (first_kind (face_tests given so_far vs))
stops_at_corner given so_far vs stop.Memory h e = tt
stops_at_corner given so_far vs (stop.Fault k) h e = wrong_corner given so_far vs k h e
