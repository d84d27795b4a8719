-- The nodes of a lit tree are the lit nodes of the tree.
use Rattle.std.proofs.Common.{◌≡◌, ℕ, zero, suc, ◌-◌, ◌<◌, nat_lt, cond, true, false, List, Option, None, Some, refl, arith, IsSomeAnd}
use Rattle.std.specs.Prelude.{IsSome}
use Rattle.lc_geom.specs.declared.triangle.Tri.{Tri}
use Rattle.lc_terms.specs.Kind.{Meaning}
use Rattle.lc_terms.specs.declared.spot.Spot.{Spot}
use Rattle.lc_tree.specs.Node.{Node, leaf, fork}
use Rattle.lc_tree.specs.Node as lights
use Rattle.lc_num.specs.declared.channels.Rgb.{Rgb}
use Rattle.lc_num.specs.declared.rules.Rule.{Rule}
use Rattle.lc_rated.specs.declared.lighting.Split.{Split}
use Rattle.lc_rated.specs.Finding.{IsSplit}
use Rattle.lc_rated.specs.LitTrees as lits
use Rattle.lc_cut.specs.Lit.{lit, lit_root}
use Rattle.lc_cut.proofs.Children.{within_count}

module _ {L C : Type 0} (m : Meaning L C) (ts : List Tri) (spot : Spot) (r : Rule) where
  nodes_lit : (t : Node L) → lits.node_count (lit m ts spot r t) ≡ lights.node_count t
  nodes_lit (leaf n l) = refl
  nodes_lit (fork n l a b) = omega (arith, nodes_lit a, nodes_lit b)

  lit_at : (t : Node L) (p : ℕ) → lits.node_at (lit m ts spot r t) p ≡ lit_root m ts spot r (lights.node_at t p)
  lit_at (leaf n l) zero = refl
  lit_at (leaf n l) (suc p) = refl
  lit_at (fork n l a b) zero = refl
  lit_at (fork n l a b) (suc p) =
      rw (nodes_lit a) (
      elim (nat_lt p (lights.node_count a)) as (λ v. cond v (lits.node_at (lit m ts spot r a) p) (lits.node_at (lit m ts spot r b) (p - lights.node_count a)) ≡ lit_root m ts spot r (cond v (lights.node_at a p) (lights.node_at b (p - lights.node_count a)))) [
        | true ↦ lit_at a p
        | false ↦ lit_at b (p - lights.node_count a)
      ])

  lit_of : (root : Option (Node L)) (p : ℕ) → lits.node_of (lit_root m ts spot r root) p ≡ lit_root m ts spot r (lights.node_of root p)
  lit_of None p = refl
  lit_of (Some t) p = lit_at t p

  found_node : (root : Option (Node L)) (p : ℕ) (o : Option (Node L)) → lights.node_of root p ≡ o → IsSome (lit_root m ts spot r o) → p < lights.count_of root
  found_node root p None e h = absurd cc
  found_node root p (Some t) e h = within_count root p t e

  -- a node that is found has a number below the count
  pub lit_within : (root : Option (Node L)) (p : ℕ) → IsSome (lits.node_of (lit_root m ts spot r root) p) → p < lights.count_of root
  lit_within root p h = found_node root p (lights.node_of root p) refl (rw (lit_of root p) at h)

  split_some : (keeps : ℕ → Rgb → Type 0) (o : Option (Node L)) (p : ℕ) (s : Option (Split Rgb)) → IsSomeAnd o (λ t. IsSplit keeps p (lit m ts spot r t) s) → IsSomeAnd (lit_root m ts spot r o) (λ t. IsSplit keeps p t s)
  split_some keeps None p s h = h
  split_some keeps (Some t) p s h = h

  -- what a node gives way to is what it does in the lit tree
  pub lit_split : (keeps : ℕ → Rgb → Type 0) (root : Option (Node L)) (p : ℕ) (s : Option (Split Rgb)) → IsSomeAnd (lights.node_of root p) (λ t. IsSplit keeps p (lit m ts spot r t) s) → IsSomeAnd (lits.node_of (lit_root m ts spot r root) p) (λ t. IsSplit keeps p t s)
  lit_split keeps root p s h = rw (lit_of root p) (split_some keeps (lights.node_of root p) p s h)
