-- What the rows of a hierarchy say of the list that they stand for.
use Rattle.std.proofs.Common.{◌≡◌, ℕ, ◌+◌, ◌<◌, ◌≤◌, ◌≢◌, List, length, true, false, if◌then◌else◌, refl, ap, sym, ◌∙◌, subst, arith}
use Rattle.std.specs.Prelude.{Option, Some, None, slice_get, nat_lt, IfNone, IfSome, IsSomeAnd, is_some}
use Rattle.std.proofs.lemmas.Bool.Decides.{nat_tests}
use Rattle.std.proofs.lemmas.Option.{slice_get_within}
use Rattle.lc_num.specs.declared.vectors.Vec3.{Vec3}
use Rattle.lc_geom.specs.declared.triangle.Tri.{Tri}
use Rattle.lc_geom.specs.Crossing.{crosses}
use Rattle.lc_geom.specs.declared.hit.Hit.{Hit}
use Rattle.lc_geom.specs.Hits.{blocked, depth, is_before, nearest, IsHitOf}
use Rattle.lc_geom.proofs.BlockedBy.{blocked_each, blocked_not}
use Rattle.lc_geom.proofs.Nearest.{least_is_nearest, none_nearest}
use Rattle.lc_hier.specs.declared.node.Row.{Row}
use Rattle.lc_hier.specs.Rows.{list_of, AreNumbered}
use Rattle.lc_hier.specs.Seen.{AreClear, IsBlocker, others, IsHitOn, IsFirstAmong}
use Rattle.lc_hier.proofs.RowLaws.{row_listed, listed_row}
use Rattle.lc_hier.proofs.Walks.{not_true}

module _ (p q : Vec3) (rows : List Row) (list : List Tri) (once : AreNumbered rows) (is : list_of rows ≡ list) where
  pub blocker_blocks : (j : ℕ) → IsBlocker p q rows j → true ≡ blocked p q list
  blocker_blocks j b =
      sym (blocked_each p q list b.0.number b.0.triangle (subst (λ ts. slice_get ts b.0.number ≡ Some b.0.triangle) is (row_listed rows once j b.0 b.1)) b.2)

  pub clear_list : ((j : ℕ) (row : Row) → slice_get rows j ≡ Some row → crosses p q row.triangle ≡ false) → false ≡ blocked p q list
  clear_list clear =
      sym (blocked_not p q list (λ k t there.
      let row = listed_row rows once k t (subst (λ ts. slice_get ts k ≡ Some t) (sym is) there) in
      subst (λ u. crosses p q u ≡ false) row.4 (clear row.0 row.1 row.2)))

  -- the known row does not block, and a walk tested the others
  pub walk_answers : (known : ℕ) (found : Option ℕ) → (IsBlocker p q rows known → ⊥) → IfNone found (AreClear p q rows known (length rows)) → IfSome found (IsBlocker p q rows) → is_some found ≡ blocked p q list
  walk_answers known None free clear blocks =
      clear_list (λ j row there.
      not_true (crosses p q row.triangle) (λ hit.
      let other : j ≢ known = λ e. free (row, subst (λ k. slice_get rows k ≡ Some row) e there, hit) in
      let missed = clear j row (slice_get_within rows j row there) other there in cc))
  walk_answers known (Some j) free clear blocks = blocker_blocks j blocks

-- the known row and the others are all rows
pub tests_most : (known n before first last : ℕ) → first ≡ before + (if nat_lt known n then 1 else 0) → last ≤ first + others known n → last ≤ before + n
tests_most known n before first last e h = grind (arith, nat_tests)

pub known_most : (known n before first : ℕ) → first ≡ before + (if nat_lt known n then 1 else 0) → first ≤ before + n
known_most known n before first e = grind (arith, nat_tests)

pub known_more : (known n before first : ℕ) → known < n → first ≡ before + (if nat_lt known n then 1 else 0) → before < first
known_more known n before first h e = grind (arith, nat_tests)

-- ---- the first hit on the rows is the nearest hit on the list

there_is : (o : Option Tri) (P : Tri → Type 0) → IsSomeAnd o P → (t : Tri) × (o ≡ Some t) × P t
there_is None P h = absurd h
there_is (Some t) P h = (t, refl, h)

module _ (e d : Vec3) (rows : List Row) (list : List Tri) (once : AreNumbered rows) (is : list_of rows ≡ list) where
  -- a hit on the list is one on a row
  on_row : (h : Hit) → IsHitOf e d list h → IsHitOn e d rows h
  on_row h on =
      let t = there_is (slice_get list h.number) (λ t. depth e d t ≡ Some h.depth) on in
      let row = listed_row rows once h.number t.0 (subst (λ ts. slice_get ts h.number ≡ Some t.0) (sym is) t.1) in
      (row.0, row.1, row.2, row.3, ap (depth e d) row.4 ∙ t.2)

  -- and the other way round
  on_list : (h : Hit) → IsHitOn e d rows h → IsHitOf e d list h
  on_list h on =
      let there : slice_get list h.number ≡ Some on.1.triangle = subst (λ ts. slice_get ts h.number ≡ Some on.1.triangle) is (ap (slice_get (list_of rows)) (sym on.3) ∙ row_listed rows once on.0 on.1 on.2) in
      subst (λ o. IsSomeAnd o (λ t. depth e d t ≡ Some h.depth)) (sym there) on.4

  pub first_answers : (best : Option Hit) → IsFirstAmong e d rows (length rows) best → best ≡ nearest e d list
  first_answers None first =
      sym (none_nearest e d list (λ k t there.
      let row = listed_row rows once k t (subst (λ ts. slice_get ts k ≡ Some t) (sym is) there) in
      ap (depth e d) (sym row.4) ∙ first.first row.0 row.1 (slice_get_within rows row.0 row.1 row.2) row.2))
  first_answers (Some h) first =
      sym (least_is_nearest e d list h (on_list h first.hit) (λ other on.
      let row = on_row other on in
      subst (λ n. is_before h (record { depth = other.depth; number = n }) ≡ true) row.3 (first.first row.0 row.1 (slice_get_within rows row.0 row.1 row.2) row.2 other.depth row.4)))
