-- Where the rows of a hierarchy's nodes begin.
use Rattle.std.proofs.Common.{◌≡◌, ℕ, zero, suc, ◌+◌, ◌-◌, ◌<◌, ◌≤◌, ⊎_elim, List, [], ◌∷◌, length, arith, ap, ◌∙◌, sym, refl, subst, get_or}
use Rattle.std.specs.Prelude.{Some, slice_get, option_map, unwrap_or}
use Rattle.std.proofs.lemmas.Option.{slice_get-get_or}
use Rattle.std.proofs.lemmas.Bool.{cases_lt}
use Rattle.lc_hier.specs.declared.node.Node.{Node}
use Rattle.lc_hier.specs.declared.node.Row.{Row}
use Rattle.lc_hier.specs.Layout.{first_row, IsNode, IsHierarchy}

pub item_at : {A : Type 0} (xs : List A) (i : ℕ) → i < length xs → (x : A) × (slice_get xs i ≡ Some x)
item_at [] i h = absurd (omega (arith, h))
item_at (x ∷ xs) zero h = (x, refl)
item_at (x ∷ xs) (suc i) h = item_at xs i (omega (arith, h))

pub first_at : (nodes : List Node) (end i : ℕ) (node : Node) → slice_get nodes i ≡ Some node → first_row nodes end i ≡ node.first
first_at nodes end i node h = ap (λ o. unwrap_or (option_map (λ (n : Node). n.first) o) end) h

pub node_there : (nodes : List Node) (i : ℕ) (node : Node) → i < length nodes → node ≡ get_or nodes i node → slice_get nodes i ≡ Some node
node_there nodes i node h e = slice_get-get_or nodes i node h ∙ ap (λ n. Some n) (sym e)

module _ (nodes : List Node) (rows : List Row) (h : IsHierarchy nodes rows) where
  -- the end node stands behind all rows
  pub first_at_end : (i : ℕ) → i + 1 ≡ length nodes → first_row nodes (length rows) i ≡ length rows
  first_at_end i e =
      let there = item_at nodes i (omega (arith, e)) in
      let last : i ≡ length nodes - 1 = omega (arith, e) in
      first_at nodes (length rows) i there.0 there.1 ∙ h.ends there.0 (subst (λ k. slice_get nodes k ≡ Some there.0) last there.1)

  step : (fuel i : ℕ) → ((j : ℕ) → length nodes ≤ j + 1 + fuel → j + 1 ≤ length nodes → first_row nodes (length rows) j ≤ length rows) → length nodes ≤ i + 1 + (fuel + 1) → i + 1 < length nodes → first_row nodes (length rows) i ≤ length rows
  step fuel i earlier less within =
      let there = item_at nodes i (omega (arith, within)) in
      let node : IsNode nodes rows (length nodes - 1) (length rows) i there.0 = h.laid i there.0 (omega arith) (omega (arith, within)) there.1 in
      let next = earlier there.0.skip (omega (arith, less, node.onward)) (omega (arith, node.within, within)) in
      omega (arith, first_at nodes (length rows) i there.0 there.1, node.rises, next)

  most_within : (fuel i : ℕ) → length nodes ≤ i + 1 + fuel → i + 1 ≤ length nodes → first_row nodes (length rows) i ≤ length rows
  most_within zero i less within = omega (arith, first_at_end i (omega (arith, less, within)))
  most_within (suc fuel) i less within =
      ⊎_elim (λ (l : i + 1 < length nodes). step fuel i (most_within fuel) (omega (arith, less)) l) (λ (e : length nodes ≤ i + 1). omega (arith, first_at_end i (omega (arith, e, within))))
      (cases_lt (i + 1) (length nodes))

  -- and no node begins behind the rows
  pub first_most : (i : ℕ) → i + 1 ≤ length nodes → first_row nodes (length rows) i ≤ length rows
  first_most i within = most_within (length nodes) i (omega arith) within
