-- Sums over a cut and facts of its nodes, as nodes give way to their children.
use Rattle.std.proofs.Common.{◌≡◌, ℕ, zero, suc, ◌+◌, ◌*◌, ◌≤◌, arith, List, [], ◌∷◌, ◌++◌, sum_by, refl, true, false, ap, sym, subst, ◌∙◌, ◌==◌, cond, Option, None, Some, slice_get}
use Rattle.std.specs.Prelude.{IfSome}
use Rattle.std.proofs.lemmas.List.Sums.{sum_by-append, sum_by-cons}
use Rattle.std.proofs.lemmas.Option.{same_Some, slice_get_within}
use Rattle.lc_num.specs.declared.channels.Rgb.{Rgb}
use Rattle.lc_rated.specs.declared.light.NodeLight.{NodeLight}
use Rattle.lc_rated.specs.declared.kind.LightKind.{LightKind}
use Rattle.lc_rated.specs.declared.kind.LightKind.TheVariants as kind
use Rattle.lc_rated.specs.LitTrees.{LitTree, lit_leaf, lit_fork, light_of, leaf_count, full_of, tree_for, Trees, EachTree}
use Rattle.lc_rated.specs.Cuts.{Placed, key_of, greatest_key, parts_of, replaced, root_of, roots_of, cut_at, est_sum, bound_sum, full_sum, leaf_sum, EachNode}

-- the sum over the trees of a cut
abbrev pub tree_sum : (LitTree → ℕ) → List Placed → ℕ
tree_sum f cut = sum_by (λ p. f p.tree) cut

pub tree_sum-cons : (f : LitTree → ℕ) (p : Placed) (ps : List Placed) → tree_sum f (p ∷ ps) ≡ f p.tree + tree_sum f ps
tree_sum-cons f p ps = sum_by-cons (λ (q : Placed). f q.tree) p ps

pub est-cons : (c : Rgb → ℕ) (p : Placed) (ps : List Placed) → est_sum c (p ∷ ps) ≡ c (light_of p.tree).est + est_sum c ps
est-cons c = tree_sum-cons (λ t. c (light_of t).est)

pub bound-cons : (c : Rgb → ℕ) (p : Placed) (ps : List Placed) → bound_sum c (p ∷ ps) ≡ c (light_of p.tree).bound + bound_sum c ps
bound-cons c = tree_sum-cons (λ t. c (light_of t).bound)

pub full-cons : (c : Rgb → ℕ) (p : Placed) (ps : List Placed) → full_sum c (p ∷ ps) ≡ full_of c p.tree + full_sum c ps
full-cons c = tree_sum-cons (full_of c)

pub leaf_sum-cons : (p : Placed) (ps : List Placed) → leaf_sum (p ∷ ps) ≡ leaf_count p.tree + leaf_sum ps
leaf_sum-cons = tree_sum-cons leaf_count

-- what a node counts is what its children count together
abbrev pub IsAdditive : (LitTree → ℕ) → Type 0
IsAdditive f = (r : NodeLight) (a b : LitTree) → f (lit_fork r a b) ≡ f a + f b

additive-parts : (f : LitTree → ℕ) → IsAdditive f → (kind : LightKind) (node : ℕ) (t : LitTree) (ps : List Placed) → tree_sum f (parts_of kind node t ++ ps) ≡ f t + tree_sum f ps
additive-parts f add kind node (lit_leaf e) ps = tree_sum-cons f (record { kind = kind; node = node; tree = lit_leaf e }) ps
additive-parts f add kind node (lit_fork r a b) ps =
    let left : Placed = record { kind = kind; node = node + 1; tree = a } in
    let right : Placed = record { kind = kind; node = node + 2 * leaf_count a; tree = b } in
    omega (arith, add r a b, tree_sum-cons f left (right ∷ ps), tree_sum-cons f right ps)

additive-replaced : (f : LitTree → ℕ) → IsAdditive f → (key : ℕ) (cut : List Placed) → tree_sum f (replaced key cut) ≡ tree_sum f cut
additive-replaced f add key [] = refl
additive-replaced f add key (p ∷ ps) =
    elim (key_of p == key) as (λ v. tree_sum f (cond v (parts_of p.kind p.node p.tree ++ ps) (p ∷ replaced key ps)) ≡ tree_sum f (p ∷ ps)) [
      | true ↦ additive-parts f add p.kind p.node p.tree ps ∙ sym (tree_sum-cons f p ps)
      | false ↦ omega (arith, tree_sum-cons f p (replaced key ps), tree_sum-cons f p ps, additive-replaced f add key ps)
    ]

-- such a sum is that of the roots, for every cut
pub additive-cut_at : (f : LitTree → ℕ) → IsAdditive f → (roots : List Placed) (k : ℕ) → tree_sum f (cut_at roots k) ≡ tree_sum f roots
additive-cut_at f add roots zero = refl
additive-cut_at f add roots (suc k) = additive-replaced f add (greatest_key (cut_at roots k)) (cut_at roots k) ∙ additive-cut_at f add roots k

pub full-cut_at : (c : Rgb → ℕ) (roots : List Placed) (k : ℕ) → full_sum c (cut_at roots k) ≡ full_sum c roots
full-cut_at c = additive-cut_at (full_of c) (λ r a b. refl)

pub leaf_sum-cut_at : (roots : List Placed) (k : ℕ) → leaf_sum (cut_at roots k) ≡ leaf_sum roots
leaf_sum-cut_at = additive-cut_at leaf_count (λ r a b. refl)

pub EachNode-append : (Q : Placed → Type 0) (xs ys : List Placed) → EachNode Q xs → EachNode Q ys → EachNode Q (xs ++ ys)
EachNode-append Q [] ys hx hy = hy
EachNode-append Q (x ∷ xs) ys hx hy = (hx.0, EachNode-append Q xs ys hx.1 hy)

pub EachNode-at : (Q : Placed → Type 0) (cut : List Placed) (j : ℕ) (p : Placed) → EachNode Q cut → slice_get cut j ≡ Some p → Q p
EachNode-at Q [] j p h at = absurd (omega (arith, slice_get_within [] j p at))
EachNode-at Q (x ∷ xs) zero p h at = subst Q (let e : Some x ≡ Some p = at in same_Some _ _ e) h.0
EachNode-at Q (x ∷ xs) (suc j) p h at = EachNode-at Q xs j p h.1 at

-- a fact goes down from a node to its children
abbrev pub GoesDown : (Placed → Type 0) → Type 0
GoesDown Q = (p : Placed) → Q p → EachNode Q (parts_of p.kind p.node p.tree)

each_replaced : (Q : Placed → Type 0) → GoesDown Q → (key : ℕ) (cut : List Placed) → EachNode Q cut → EachNode Q (replaced key cut)
each_replaced Q down key [] h = tt
each_replaced Q down key (p ∷ ps) h =
    elim (key_of p == key) as (λ v. EachNode Q (cond v (parts_of p.kind p.node p.tree ++ ps) (p ∷ replaced key ps))) [
      | true ↦ EachNode-append Q (parts_of p.kind p.node p.tree) ps (down p h.0) h.1
      | false ↦ (h.0, each_replaced Q down key ps h.1)
    ]

-- what holds of the roots and goes down holds of each node of each cut
pub each_cut_at : (Q : Placed → Type 0) → GoesDown Q → (roots : List Placed) (k : ℕ) → EachNode Q roots → EachNode Q (cut_at roots k)
each_cut_at Q down roots zero h = h
each_cut_at Q down roots (suc k) h = each_replaced Q down (greatest_key (cut_at roots k)) (cut_at roots k) (each_cut_at Q down roots k h)

each_root : (P : LitTree → Type 0) (kind : LightKind) (o : Option LitTree) → IfSome o P → EachNode (λ p. P p.tree) (root_of kind o)
each_root P kind None h = tt
each_root P kind (Some t) h = (h, tt)

-- a fact of each tree is one of each root
pub each_of_trees : (P : LitTree → Type 0) (trees : Trees) → EachTree P trees → EachNode (λ p. P p.tree) (roots_of trees)
each_of_trees P trees h =
    let Q : Placed → Type 0 = λ p. P p.tree in
    EachNode-append Q (root_of kind.Omni trees.omni) (root_of kind.Oriented trees.oriented ++ root_of kind.Sun trees.sun)
    (each_root P kind.Omni trees.omni h.omni)
    (EachNode-append Q (root_of kind.Oriented trees.oriented) (root_of kind.Sun trees.sun) (each_root P kind.Oriented trees.oriented h.oriented) (each_root P kind.Sun trees.sun h.sun))

-- what a tree counts, if it is there
abbrev pub count_of : (LitTree → ℕ) → Option LitTree → ℕ
count_of f None = 0
count_of f (Some t) = f t

tree_sum-root_of : (f : LitTree → ℕ) (kind : LightKind) (o : Option LitTree) → tree_sum f (root_of kind o) ≡ count_of f o
tree_sum-root_of f kind None = refl
tree_sum-root_of f kind (Some t) = omega (arith, tree_sum-cons f (record { kind = kind; node = 0; tree = t }) [])

-- a sum over the roots is one over the three trees
pub tree_sum-roots_of : (f : LitTree → ℕ) (trees : Trees) → tree_sum f (roots_of trees) ≡ count_of f trees.omni + (count_of f trees.oriented + count_of f trees.sun)
tree_sum-roots_of f trees =
    let g : Placed → ℕ = λ p. f p.tree in
    omega (arith, sum_by-append g (root_of kind.Omni trees.omni) (root_of kind.Oriented trees.oriented ++ root_of kind.Sun trees.sun), sum_by-append g (root_of kind.Oriented trees.oriented) (root_of kind.Sun trees.sun), tree_sum-root_of f kind.Omni trees.omni, tree_sum-root_of f kind.Oriented trees.oriented, tree_sum-root_of f kind.Sun trees.sun)

-- no tree counts more than all roots do
pub root_sum : (f : LitTree → ℕ) (trees : Trees) (k : LightKind) (t : LitTree) → tree_for trees k ≡ Some t → f t ≤ tree_sum f (roots_of trees)
root_sum f trees k t h =
    let all = tree_sum-roots_of f trees in
    elim k as (λ v. tree_for trees v ≡ Some t → f t ≤ tree_sum f (roots_of trees)) [
      | kind.Omni ↦ (λ e. omega (arith, all, ap (count_of f) e))
      | kind.Oriented ↦ (λ e. omega (arith, all, ap (count_of f) e))
      | kind.Sun ↦ (λ e. omega (arith, all, ap (count_of f) e))
    ] h
