-- The tests of a line of numbers, as its values are read one after the other.
use Rattle.std.proofs.Common.{◌≡◌, ℕ, ◌+◌, ◌<◌, ◌≤◌, leb, List, [], ◌∷◌, length, Some, None, ◌∙◌, arith}
use Rattle.std.proofs.lemmas.Bool.{le-leb, lt-leb}
use Rattle.lc_obj.specs.declared.fault_kind.FaultKind.{FaultKind}
use Rattle.lc_obj.specs.declared.fault_kind.FaultKind.TheVariants as kind
use Rattle.lc_scan.specs.LineTests.{first_kind}
use Rattle.lc_obj.specs.ObjLine.{coordinate_tests, number_tests, vector_tests, uv_tests, room_test, count_test}
use Rattle.lc_scan.proofs.LineTestLemmas.{found, passed, cons_passed, cons_found, unless_true, unless_false}

pub enough : (least : ℕ) (k : FaultKind) (vs : List (List ℕ)) → least ≤ length vs → count_test least k vs ≡ None
enough least k vs h = unless_true (leb least (length vs)) k (le-leb least (length vs) h)

pub too_few : (least : ℕ) (k : FaultKind) (vs : List (List ℕ)) → length vs < least → count_test least k vs ≡ Some k
too_few least k vs h = unless_false (leb least (length vs)) k (lt-leb least (length vs) h)

pub has_room : (so_far more : ℕ) (k : FaultKind) → so_far + more ≤ 1_000_000 → room_test so_far more k ≡ None
has_room so_far more k h = unless_true (leb (so_far + more) 1000000) k (le-leb (so_far + more) 1000000 h)

pub no_room : (so_far more : ℕ) (k : FaultKind) → 1_000_000 < so_far + more → room_test so_far more k ≡ Some k
no_room so_far more k h = unless_false (leb (so_far + more) 1000000) k (lt-leb (so_far + more) 1000000 h)

-- ---- places and normals

pub wrong_vector : (so_far : ℕ) (vs : List (List ℕ)) (k : FaultKind) → 3 ≤ length vs → first_kind (coordinate_tests vs) ≡ Some k → first_kind (vector_tests so_far vs) ≡ Some k
unfolding vector_tests
wrong_vector so_far vs k h e = cons_passed (count_test 3 kind.Words vs) _ (enough 3 kind.Words vs h) ∙ found (coordinate_tests vs) _ k e

pub one_vector_more : (so_far : ℕ) (vs : List (List ℕ)) → 3 ≤ length vs → first_kind (coordinate_tests vs) ≡ None → first_kind (vector_tests so_far vs) ≡ first_kind (room_test so_far 1 kind.Vertices ∷ [])
unfolding vector_tests
one_vector_more so_far vs h e = cons_passed (count_test 3 kind.Words vs) _ (enough 3 kind.Words vs h) ∙ passed (coordinate_tests vs) _ e

pub no_room_for_vector : (so_far : ℕ) (vs : List (List ℕ)) → 3 ≤ length vs → first_kind (coordinate_tests vs) ≡ None → so_far ≡ 1_000_000 → first_kind (vector_tests so_far vs) ≡ Some kind.Vertices
no_room_for_vector so_far vs h e full =
    one_vector_more so_far vs h e ∙ cons_found (room_test so_far 1 kind.Vertices) [] kind.Vertices (no_room so_far 1 kind.Vertices (omega arith))

pub vector_passes : (so_far : ℕ) (vs : List (List ℕ)) → 3 ≤ length vs → first_kind (coordinate_tests vs) ≡ None → so_far < 1_000_000 → first_kind (vector_tests so_far vs) ≡ None
vector_passes so_far vs h e few = one_vector_more so_far vs h e ∙ cons_passed (room_test so_far 1 kind.Vertices) [] (has_room so_far 1 kind.Vertices (omega arith))

-- ---- texture places

pub wrong_uv : (so_far : ℕ) (vs : List (List ℕ)) (k : FaultKind) → 1 ≤ length vs → first_kind (number_tests vs) ≡ Some k → first_kind (uv_tests so_far vs) ≡ Some k
unfolding uv_tests
wrong_uv so_far vs k h e = cons_passed (count_test 1 kind.Words vs) _ (enough 1 kind.Words vs h) ∙ found (number_tests vs) _ k e

pub one_uv_more : (so_far : ℕ) (vs : List (List ℕ)) → 1 ≤ length vs → first_kind (number_tests vs) ≡ None → first_kind (uv_tests so_far vs) ≡ first_kind (room_test so_far 1 kind.Vertices ∷ [])
unfolding uv_tests
one_uv_more so_far vs h e = cons_passed (count_test 1 kind.Words vs) _ (enough 1 kind.Words vs h) ∙ passed (number_tests vs) _ e

pub no_room_for_uv : (so_far : ℕ) (vs : List (List ℕ)) → 1 ≤ length vs → first_kind (number_tests vs) ≡ None → so_far ≡ 1_000_000 → first_kind (uv_tests so_far vs) ≡ Some kind.Vertices
no_room_for_uv so_far vs h e full =
    one_uv_more so_far vs h e ∙ cons_found (room_test so_far 1 kind.Vertices) [] kind.Vertices (no_room so_far 1 kind.Vertices (omega arith))

pub uv_passes : (so_far : ℕ) (vs : List (List ℕ)) → 1 ≤ length vs → first_kind (number_tests vs) ≡ None → so_far < 1_000_000 → first_kind (uv_tests so_far vs) ≡ None
uv_passes so_far vs h e few = one_uv_more so_far vs h e ∙ cons_passed (room_test so_far 1 kind.Vertices) [] (has_room so_far 1 kind.Vertices (omega arith))
