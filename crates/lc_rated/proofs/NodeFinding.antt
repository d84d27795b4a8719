-- Each node of each cut is found in the trees by its kind and number.
use Rattle.std.proofs.Common.{◌≡◌, ℕ, zero, suc, ◌+◌, ◌-◌, ◌*◌, ◌<◌, ◌≤◌, nat_lt, cond, true, false, ◌++◌, Option, None, Some, refl, ap, subst, ◌∙◌, arith, add-one}
use Rattle.std.proofs.lemmas.Bool.Decides.{nat_tests}
use Rattle.std.proofs.lemmas.Option.{none-some, same_Some}
use Rattle.lc_num.specs.declared.channels.Rgb.{Rgb}
use Rattle.lc_rated.specs.declared.light.NodeLight.{NodeLight}
use Rattle.lc_rated.specs.declared.kind.LightKind.{LightKind}
use Rattle.lc_rated.specs.declared.kind.LightKind.TheVariants as kind
use Rattle.lc_rated.specs.LitTrees.{LitTree, lit_leaf, lit_fork, leaf_count, node_count, Trees, tree_for, node_at, node_of, find}
use Rattle.lc_rated.specs.Cuts.{Placed, parts_of, root_of, roots_of, cut_at, leaf_sum, EachNode}
use Rattle.lc_rated.proofs.CutSums.{EachNode-append, each_cut_at, root_sum}

leaf_fork : {q : Rgb} {r : NodeLight} {a b : LitTree} → Some (lit_leaf q) ≡ Some (lit_fork r a b) → ⊥
leaf_fork e = cc

pub counts : (t : LitTree) → node_count t + 1 ≡ 2 * leaf_count t
counts (lit_leaf r) = refl
counts (lit_fork r a b) = omega (arith, counts a, counts b)

pub root_at : (t : LitTree) → node_at t 0 ≡ Some t
root_at (lit_leaf r) = refl
root_at (lit_fork r a b) = refl

node_some : (t : LitTree) → 0 < node_count t
node_some (lit_leaf r) = omega arith
node_some (lit_fork r a b) = omega arith

at_room : (t : LitTree) (p : ℕ) (s : LitTree) → node_at t p ≡ Some s → p + node_count s ≤ node_count t
at_room (lit_leaf r) zero s e = let same : lit_leaf r ≡ s = same_Some _ _ e in subst (λ u. 0 + node_count u ≤ 1) same (omega arith)
at_room (lit_leaf r) (suc p) s e = absurd (none-some _ e)
at_room (lit_fork r a b) zero s e = let same : lit_fork r a b ≡ s = same_Some _ _ e in subst (λ u. 0 + node_count u ≤ 1 + (node_count a + node_count b)) same (omega arith)
at_room (lit_fork r a b) (suc p) s e =
    elim (nat_lt p (node_count a)) as (λ v. nat_lt p (node_count a) ≡ v → cond v (node_at a p) (node_at b (p - node_count a)) ≡ Some s → suc p + node_count s ≤ 1 + (node_count a + node_count b)) [
      | true ↦ (λ q f. omega (arith, at_room a p s f))
      | false ↦ (λ q f. let le : node_count a ≤ p = grind (arith, nat_tests) in omega (arith, at_room b (p - node_count a) s f))
    ] refl e

in_left : (r : NodeLight) (a b : LitTree) (p : ℕ) → p < node_count a → node_at (lit_fork r a b) (suc p) ≡ node_at a p
in_left r a b p h = let yes : nat_lt p (node_count a) ≡ true = grind (arith, nat_tests) in rw yes refl

in_right : (r : NodeLight) (a b : LitTree) (p : ℕ) → node_at (lit_fork r a b) (suc (node_count a + p)) ≡ node_at b p
in_right r a b p =
    let no : nat_lt (node_count a + p) (node_count a) ≡ false = grind (arith, nat_tests) in
    let d : (node_count a + p) - node_count a ≡ p = omega arith in
    rw (no, d) refl

left_at : (t : LitTree) (p : ℕ) (r : NodeLight) (a b : LitTree) → node_at t p ≡ Some (lit_fork r a b) → node_at t (suc p) ≡ Some a
left_at (lit_leaf q) zero r a b e = absurd (leaf_fork e)
left_at (lit_leaf q) (suc p) r a b e = absurd (none-some _ e)
left_at (lit_fork q c d) zero r a b e = let same : c ≡ a = cc in in_left q c d 0 (node_some c) ∙ root_at c ∙ ap Some same
left_at (lit_fork q c d) (suc p) r a b e =
    elim (nat_lt p (node_count c)) as (λ v. nat_lt p (node_count c) ≡ v → cond v (node_at c p) (node_at d (p - node_count c)) ≡ Some (lit_fork r a b) → node_at (lit_fork q c d) (suc (suc p)) ≡ Some a) [
      | true ↦ (λ z f. in_left q c d (suc p) (omega (arith, at_room c p (lit_fork r a b) f, node_some a)) ∙ left_at c p r a b f)
      | false ↦ (λ z f.
          let le : node_count c ≤ p = grind (arith, nat_tests) in
          let at : suc p ≡ node_count c + suc (p - node_count c) = omega arith in
          ap (λ i. node_at (lit_fork q c d) (suc i)) at ∙ in_right q c d (suc (p - node_count c)) ∙ left_at d (p - node_count c) r a b f)
    ] refl e

right_at : (t : LitTree) (p : ℕ) (r : NodeLight) (a b : LitTree) → node_at t p ≡ Some (lit_fork r a b) → node_at t (suc (p + node_count a)) ≡ Some b
right_at (lit_leaf q) zero r a b e = absurd (leaf_fork e)
right_at (lit_leaf q) (suc p) r a b e = absurd (none-some _ e)
right_at (lit_fork q c d) zero r a b e =
    let same : c ≡ a = cc in
    let other : d ≡ b = cc in
    let counted : node_count c ≡ node_count a = ap node_count same in
    let at : 0 + node_count a ≡ node_count c + 0 = omega (arith, counted) in
    ap (λ i. node_at (lit_fork q c d) (suc i)) at ∙ in_right q c d 0 ∙ root_at d ∙ ap Some other
right_at (lit_fork q c d) (suc p) r a b e =
    elim (nat_lt p (node_count c)) as (λ v. nat_lt p (node_count c) ≡ v → cond v (node_at c p) (node_at d (p - node_count c)) ≡ Some (lit_fork r a b) → node_at (lit_fork q c d) (suc (suc p + node_count a)) ≡ Some b) [
      | true ↦ (λ z f.
          let at : suc p + node_count a ≡ suc (p + node_count a) = omega arith in
          ap (λ i. node_at (lit_fork q c d) (suc i)) at ∙ in_left q c d (suc (p + node_count a)) (omega (arith, at_room c p (lit_fork r a b) f, node_some b)) ∙ right_at c p r a b f)
      | false ↦ (λ z f.
          let le : node_count c ≤ p = grind (arith, nat_tests) in
          let at : suc p + node_count a ≡ node_count c + suc ((p - node_count c) + node_count a) = omega arith in
          ap (λ i. node_at (lit_fork q c d) (suc i)) at ∙ in_right q c d (suc ((p - node_count c) + node_count a)) ∙ right_at d (p - node_count c) r a b f)
    ] refl e

-- the children of a node that is found are found at their numbers
pub left_of : (o : Option LitTree) (p : ℕ) (r : NodeLight) (a b : LitTree) → node_of o p ≡ Some (lit_fork r a b) → node_of o (p + 1) ≡ Some a
left_of None p r a b h = absurd (none-some _ h)
left_of (Some t) p r a b h = rw add-one (left_at t p r a b h)

pub right_of : (o : Option LitTree) (p : ℕ) (r : NodeLight) (a b : LitTree) → node_of o p ≡ Some (lit_fork r a b) → node_of o (p + 2 * leaf_count a) ≡ Some b
right_of None p r a b h = absurd (none-some _ h)
right_of (Some t) p r a b h =
    let e : p + 2 * leaf_count a ≡ suc (p + node_count a) = omega (arith, counts a) in
    ap (node_at t) e ∙ right_at t p r a b h

-- a node of a cut is found in the trees
abbrev pub IsIn : Trees → Placed → Type 0
IsIn trees p = find trees p.kind p.node ≡ Some p.tree

parts_in : (trees : Trees) (kind : LightKind) (node : ℕ) (t : LitTree) → find trees kind node ≡ Some t → EachNode (IsIn trees) (parts_of kind node t)
parts_in trees kind node (lit_leaf r) h = (h, tt)
parts_in trees kind node (lit_fork r a b) h = (left_of (tree_for trees kind) node r a b h, (right_of (tree_for trees kind) node r a b h, tt))

root_in : (trees : Trees) (kind : LightKind) (o : Option LitTree) → tree_for trees kind ≡ o → EachNode (IsIn trees) (root_of kind o)
root_in trees kind None h = tt
root_in trees kind (Some t) h = (ap (λ o. node_of o 0) h ∙ root_at t, tt)

pub cut_in : (trees : Trees) (k : ℕ) → EachNode (IsIn trees) (cut_at (roots_of trees) k)
cut_in trees k =
    each_cut_at (IsIn trees) (λ p. parts_in trees p.kind p.node p.tree) (roots_of trees) k
    (EachNode-append (IsIn trees) (root_of kind.Omni trees.omni) (root_of kind.Oriented trees.oriented ++ root_of kind.Sun trees.sun) (root_in trees kind.Omni trees.omni refl)
    (EachNode-append (IsIn trees) (root_of kind.Oriented trees.oriented) (root_of kind.Sun trees.sun) (root_in trees kind.Oriented trees.oriented refl) (root_in trees kind.Sun trees.sun refl)))

found_in : (trees : Trees) (k : LightKind) (n : ℕ) (o : Option LitTree) (t : LitTree) → leaf_sum (roots_of trees) ≤ 65536 → tree_for trees k ≡ o → node_of o n ≡ Some t → n < 131072
found_in trees k n None t few is h = absurd (none-some _ h)
found_in trees k n (Some r) t few is h = omega (arith, at_room r n t h, node_some t, counts r, root_sum leaf_count trees k r is, few)

-- the numbers of nodes are limited
pub found_within : (trees : Trees) (k : LightKind) (n : ℕ) (t : LitTree) → leaf_sum (roots_of trees) ≤ 65536 → find trees k n ≡ Some t → n < 131072
found_within trees k n t few h = found_in trees k n (tree_for trees k) t few refl h
