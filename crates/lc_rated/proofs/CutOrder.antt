-- Each cut is in order of kind and number, so the first node of a key is the one of lowest kind and number.
use Rattle.std.proofs.Common.{◌≡◌, ℕ, zero, suc, ◌+◌, ◌*◌, ◌<◌, ◌≤◌, ◌⊎◌, inl, inr, cond, true, false, ◌==◌, List, [], ◌∷◌, ◌++◌, Option, None, Some, refl, subst, arith}
use Rattle.lc_rated.specs.declared.kind.LightKind.{LightKind}
use Rattle.lc_rated.specs.declared.kind.LightKind.TheVariants as kind
use Rattle.lc_rated.specs.LitTrees.{LitTree, lit_leaf, lit_fork, leaf_count, node_count, kind_number, Trees}
use Rattle.lc_rated.specs.Cuts.{Placed, key_of, greatest_key, parts_of, replaced, root_of, roots_of, cut_at, EachNode, IsBefore, IsInOrder}
use Rattle.lc_rated.proofs.NodeFinding.{counts}

-- the nodes stand in order, from this kind and number on, and none lies below another
abbrev pub IsOrdered : ℕ → ℕ → List Placed → Type 0
IsOrdered kind from [] = Unit {0}
IsOrdered kind from (p ∷ ps) =
    ((kind < kind_number p.kind) ⊎ ((kind ≡ kind_number p.kind) × (from ≤ p.node))) × IsOrdered (kind_number p.kind) (p.node + node_count p.tree) ps

parts_ordered : (kind from : ℕ) (k : LightKind) (n : ℕ) (t : LitTree) (ps : List Placed) → (kind < kind_number k) ⊎ ((kind ≡ kind_number k) × (from ≤ n)) → IsOrdered (kind_number k) (n + node_count t) ps → IsOrdered kind from (parts_of k n t ++ ps)
parts_ordered kind from k n (lit_leaf r) ps h hs = (h, hs)
parts_ordered kind from k n (lit_fork r a b) ps h hs =
    let end : n + (1 + (node_count a + node_count b)) ≡ (n + 2 * leaf_count a) + node_count b = omega (arith, counts a) in (
      elim h [ inl lt ↦ inl lt | inr q ↦ inr (q.0, omega (arith, q.1)) ],
      (inr (refl, omega (arith, counts a)), subst (λ e. IsOrdered (kind_number k) e ps) end hs),
    )

replaced_ordered : (key kind from : ℕ) (cut : List Placed) → IsOrdered kind from cut → IsOrdered kind from (replaced key cut)
replaced_ordered key kind from [] h = tt
replaced_ordered key kind from (p ∷ ps) h =
    elim (key_of p == key) as (λ v. IsOrdered kind from (cond v (parts_of p.kind p.node p.tree ++ ps) (p ∷ replaced key ps))) [
      | true ↦ parts_ordered kind from p.kind p.node p.tree ps h.0 h.1
      | false ↦ (h.0, replaced_ordered key (kind_number p.kind) (p.node + node_count p.tree) ps h.1)
    ]

roots_ordered : (a b c : Option LitTree) → IsOrdered 0 0 (root_of kind.Omni a ++ (root_of kind.Oriented b ++ root_of kind.Sun c))
roots_ordered None None None = tt
roots_ordered None None (Some c) = (inl (omega arith), tt)
roots_ordered None (Some b) None = (inl (omega arith), tt)
roots_ordered None (Some b) (Some c) = (inl (omega arith), (inl (omega arith), tt))
roots_ordered (Some a) None None = (inr (refl, omega arith), tt)
roots_ordered (Some a) None (Some c) = (inr (refl, omega arith), (inl (omega arith), tt))
roots_ordered (Some a) (Some b) None = (inr (refl, omega arith), (inl (omega arith), tt))
roots_ordered (Some a) (Some b) (Some c) = (inr (refl, omega arith), (inl (omega arith), (inl (omega arith), tt)))

cut_ordered : (trees : Trees) (k : ℕ) → IsOrdered 0 0 (cut_at (roots_of trees) k)
cut_ordered trees zero = roots_ordered trees.omni trees.oriented trees.sun
cut_ordered trees (suc k) = replaced_ordered (greatest_key (cut_at (roots_of trees) k)) 0 0 (cut_at (roots_of trees) k) (cut_ordered trees k)

node_some : (t : LitTree) → 0 < node_count t
node_some (lit_leaf r) = omega arith
node_some (lit_fork r a b) = omega arith

-- this node stands before those that are in order from a later place on
before_rest : (p : Placed) (kind from : ℕ) (ps : List Placed) → (kind_number p.kind < kind) ⊎ ((kind_number p.kind ≡ kind) × (p.node < from)) → IsOrdered kind from ps → EachNode (IsBefore p) ps
before_rest p kind from [] h hs = tt
before_rest p kind from (q ∷ qs) h hs =
    let here : IsBefore p q = elim h [
      | inl lt ↦ elim hs.0 [ inl more ↦ inl (omega (arith, lt, more)) | inr s ↦ inl (omega (arith, lt, s.0)) ]
      | inr r ↦ elim hs.0 [ inl more ↦ inl (omega (arith, r.0, more)) | inr s ↦ inr (omega (arith, r.0, s.0), omega (arith, r.1, s.1)) ]
    ] in
    let next : (kind_number p.kind < kind_number q.kind) ⊎ ((kind_number p.kind ≡ kind_number q.kind) × (p.node < q.node + node_count q.tree)) = elim here [
      | inl lt ↦ inl lt
      | inr s ↦ inr (s.0, omega (arith, s.1))
    ] in (here, before_rest p (kind_number q.kind) (q.node + node_count q.tree) qs next hs.1)

in_order : (kind from : ℕ) (cut : List Placed) → IsOrdered kind from cut → IsInOrder cut
in_order kind from [] h = tt
in_order kind from (p ∷ ps) h =
    let start : (kind_number p.kind < kind_number p.kind) ⊎ ((kind_number p.kind ≡ kind_number p.kind) × (p.node < p.node + node_count p.tree)) = inr (refl, omega (arith, node_some p.tree)) in
    (before_rest p (kind_number p.kind) (p.node + node_count p.tree) ps start h.1, in_order (kind_number p.kind) (p.node + node_count p.tree) ps h.1)

pub cut_in_order : (trees : Trees) (k : ℕ) → IsInOrder (cut_at (roots_of trees) k)
cut_in_order trees k = in_order 0 0 (cut_at (roots_of trees) k) (cut_ordered trees k)
