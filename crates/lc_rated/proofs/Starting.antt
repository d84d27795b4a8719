-- The nodes of the first cut: the roots, one kind after another.
use Rattle.std.proofs.Common.{◌≡◌, ℕ, ◌+◌, ◌-◌, ◌<◌, ◌≤◌, ◌^◌, List, [], ◌∷◌, ◌++◌, length, map, sum_by, set, Option, None, Some, IsPermutation, refl, ap, sym, subst, ◌∙◌, arith, length-append, append_assoc}
use Rattle.std.proofs.lemmas.List.{map-append, append-nil}
use Rattle.std.proofs.lemmas.List.Sums.{sum_by-append, sum_by-cons}
use Rattle.std.proofs.lemmas.List.Sorted.{IsPermutation-refl, IsPermutation-trans, IsPermutation-cons, IsPermutation-to_front, length_permutation}
use Rattle.lc_num.specs.declared.channels.Rgb.{Rgb}
use Rattle.lc_heap.specs.declared.entry.Entry.{Entry}
use Rattle.lc_rated.specs.declared.light.NodeLight.{NodeLight}
use Rattle.lc_rated.specs.declared.lighting.Found.{Found}
use Rattle.lc_rated.specs.declared.kind.LightKind.{LightKind}
use Rattle.lc_rated.specs.declared.kind.LightKind.TheVariants as kind
use Rattle.lc_rated.specs.LitTrees.{LitTree, light_of, kind_number, Trees, tree_for}
use Rattle.lc_rated.specs.Cuts.{Placed, EachNode, root_of, roots_of, cut_at, totals_of, AreLimited, light_key}
use Rattle.lc_rated.specs.Finding.{IsFound, IsRoot}
use Rattle.lc_rated.specs.Nodes.{NodesParts, entry_of, lights_plus, made_entry, made_slot, place_of, roots_before, Holds, IsAdded, IsCutOf, IsKept, IsSmall}
use Rattle.lc_rated.proofs.CutSums.{EachNode-append}
use Rattle.lc_rated.proofs.CutSequence.{root_few}
use Rattle.lc_rated.proofs.CutLimits.{totals_small}
use Rattle.lc_rated.proofs.NodeSteps.{placed, length-map}
use Rattle.lc_rated.proofs.Holding.{handed_out, kept_still, kept_new, kind_below, place_within}

abbrev roots_to : LightKind → Trees → List Placed
roots_to k trees = roots_before k trees ++ root_of k (tree_for trees k)

-- the roots after these
roots_after : (k : LightKind) (trees : Trees) → (rest : List Placed) × (roots_to k trees ++ rest ≡ roots_of trees)
roots_after kind.Omni trees = (root_of kind.Oriented trees.oriented ++ root_of kind.Sun trees.sun, refl)
roots_after kind.Oriented trees = (root_of kind.Sun trees.sun, append_assoc (root_of kind.Omni trees.omni) (root_of kind.Oriented trees.oriented) (root_of kind.Sun trees.sun))
roots_after kind.Sun trees = ([], append-nil (roots_to kind.Sun trees) ∙ append_assoc (root_of kind.Omni trees.omni) (root_of kind.Oriented trees.oriented) (root_of kind.Sun trees.sun))

-- the nodes before are of lower kinds
abbrev IsLower : LightKind → Placed → Type 0
IsLower k p = kind_number p.kind < kind_number k

lower_root : (k j : LightKind) (o : Option LitTree) → kind_number j < kind_number k → EachNode (IsLower k) (root_of j o)
lower_root k j None h = tt
lower_root k j (Some t) h = (h, tt)

lower_before : (k : LightKind) (trees : Trees) → EachNode (IsLower k) (roots_before k trees)
lower_before kind.Omni trees = tt
lower_before kind.Oriented trees = lower_root kind.Oriented kind.Omni trees.omni (omega arith)
lower_before kind.Sun trees =
    EachNode-append (IsLower kind.Sun) (root_of kind.Omni trees.omni) (root_of kind.Oriented trees.oriented) (lower_root kind.Sun kind.Omni trees.omni (omega arith)) (lower_root kind.Sun kind.Oriented trees.oriented (omega arith))

before_few : (k : LightKind) (trees : Trees) → length (roots_before k trees) ≤ 2
before_few kind.Omni trees = omega arith
before_few kind.Oriented trees = omega (arith, root_few kind.Omni trees.omni)
before_few kind.Sun trees = omega (arith, root_few kind.Omni trees.omni, root_few kind.Oriented trees.oriented, length-append (root_of kind.Omni trees.omni) (root_of kind.Oriented trees.oriented))

-- what holds of nodes of lower kinds and changes for none of them
each_lower : (Q R : Placed → Type 0) (k : LightKind) (ps : List Placed) → ((q : Placed) → Q q → IsLower k q → R q) → EachNode Q ps → EachNode (IsLower k) ps → EachNode R ps
each_lower Q R k [] f hq hl = tt
each_lower Q R k (p ∷ ps) f hq hl = (f p hq.0 hl.0, each_lower Q R k ps f hq.1 hl.1)

rgb_same : (a b : Rgb) → a.r ≡ b.r → a.g ≡ b.g → a.b ≡ b.b → a ≡ b
rgb_same a b hr hg hb =
    let f : ℕ → ℕ → ℕ → Rgb = λ x y z. record { r = x; g = y; b = z } in
    ap (λ x. f x a.g a.b) hr ∙ ap (λ y. f b.r y a.b) hg ∙ ap (λ z. f b.r b.g z) hb

light_same : (a b : NodeLight) → a.est ≡ b.est → a.bound ≡ b.bound → a ≡ b
light_same a b he hb =
    let f : Rgb → Rgb → NodeLight = λ x y. record { est = x; bound = y } in
    ap (λ x. f x a.bound) he ∙ ap (f b.est) hb

sum_push : (f : Placed → ℕ) (ps : List Placed) (p : Placed) → sum_by f (ps ++ p ∷ []) ≡ sum_by f ps + f p
sum_push f ps p = omega (arith, sum_by-append f ps (p ∷ []), sum_by-cons f p [])

totals_push : (ps : List Placed) (p : Placed) → totals_of (ps ++ p ∷ []) ≡ lights_plus (totals_of ps) (light_of p.tree)
totals_push ps p =
    light_same (totals_of (ps ++ p ∷ [])) (lights_plus (totals_of ps) (light_of p.tree))
    (rgb_same (totals_of (ps ++ p ∷ [])).est (lights_plus (totals_of ps) (light_of p.tree)).est (sum_push (λ q. (light_of q.tree).est.r) ps p) (sum_push (λ q. (light_of q.tree).est.g) ps p) (sum_push (λ q. (light_of q.tree).est.b) ps p))
    (rgb_same (totals_of (ps ++ p ∷ [])).bound (lights_plus (totals_of ps) (light_of p.tree)).bound (sum_push (λ q. (light_of q.tree).bound.r) ps p) (sum_push (λ q. (light_of q.tree).bound.g) ps p) (sum_push (λ q. (light_of q.tree).bound.b) ps p))

-- the sums over some of the nodes are small where those over all are
front_small : (ps qs rs : List Placed) → ps ++ qs ≡ rs → IsSmall (totals_of rs) → IsSmall (totals_of ps)
front_small ps qs rs e h =
    let s : IsSmall (totals_of (ps ++ qs)) = subst (λ xs. IsSmall (totals_of xs)) (sym e) h in
    record {
      est_r = omega (arith, s.est_r, sum_by-append (λ (p : Placed). (light_of p.tree).est.r) ps qs);
      est_g = omega (arith, s.est_g, sum_by-append (λ (p : Placed). (light_of p.tree).est.g) ps qs);
      est_b = omega (arith, s.est_b, sum_by-append (λ (p : Placed). (light_of p.tree).est.b) ps qs);
      bound_r = omega (arith, s.bound_r, sum_by-append (λ (p : Placed). (light_of p.tree).bound.r) ps qs);
      bound_g = omega (arith, s.bound_g, sum_by-append (λ (p : Placed). (light_of p.tree).bound.g) ps qs);
      bound_b = omega (arith, s.bound_b, sum_by-append (λ (p : Placed). (light_of p.tree).bound.b) ps qs);
    }

root_none : {K : Type 0} (keeps : ℕ → K → Type 0) (k : LightKind) (o : Option LitTree) → IsRoot keeps o None → root_of k o ≡ []
root_none keeps k None h = refl
root_none keeps k (Some t) h = absurd h

root_some : {K : Type 0} (keeps : ℕ → K → Type 0) (k : LightKind) (o : Option LitTree) (f : Found K) → IsRoot keeps o (Some f) → (t : LitTree) × (root_of k o ≡ placed k 0 t ∷ []) × IsFound keeps 0 t f
root_some keeps k None f h = absurd cc
root_some keeps k (Some t) f h = (t, refl, h)

-- no node at all
pub holds_nothing : {K : Type 0} (keeps : LightKind → ℕ → K → Type 0) (nodes : NodesParts K) → nodes.entries ≡ [] → nodes.sums ≡ totals_of [] → Holds keeps [] nodes
holds_nothing keeps nodes e s = record { entries = rw e (IsPermutation-refl []); sums = s; owner = λ i. 0; kept = tt }

module _ {K : Type 0} (keeps : LightKind → ℕ → K → Type 0) (trees : Trees) (k : LightKind) (nodes : NodesParts K) (h : Holds keeps (roots_before k trees) nodes) where
  pub start_none : IsRoot (keeps k) (tree_for trees k) None → Holds keeps (roots_to k trees) nodes
  start_none r = rw (root_none (keeps k) k (tree_for trees k) r, append-nil) h

  pub start_count : length nodes.entries ≤ 2
  start_count = omega (arith, before_few k trees, length-map entry_of (roots_before k trees), length_permutation (map entry_of (roots_before k trees)) nodes.entries h.entries)

  pub steps_none : IsRoot (keeps k) (tree_for trees k) None → length (root_of k (tree_for trees k)) ≡ 0
  steps_none r = rw (root_none (keeps k) k (tree_for trees k) r) refl

  module _ (limited : AreLimited trees) (f : Found K) (r : IsRoot (keeps k) (tree_for trees k) (Some f)) where
    root : (t : LitTree) × (root_of k (tree_for trees k) ≡ placed k 0 t ∷ []) × IsFound (keeps k) 0 t f
    root = root_some (keeps k) k (tree_for trees k) f r

    abbrev next : List Placed
    next = roots_before k trees ++ placed k 0 root.0 ∷ []

    next_is : next ≡ roots_to k trees
    next_is = ap (λ ps. roots_before k trees ++ ps) (sym root.1)

    next_totals : totals_of next ≡ lights_plus nodes.sums f.light
    next_totals = totals_push (roots_before k trees) (placed k 0 root.0) ∙ ap (λ s. lights_plus s (light_of root.0)) (sym h.sums) ∙ ap (lights_plus nodes.sums) (sym root.2.light)

    pub start_small : IsSmall (lights_plus nodes.sums f.light)
    start_small =
        let after = roots_after k trees in
        subst IsSmall (ap totals_of (sym next_is) ∙ next_totals) (front_small (roots_to k trees) after.0 (roots_of trees) after.1 (totals_small trees 0 limited))

    pub start_key : light_key f.light < 2 ^ 128
    start_key = let s : IsSmall (lights_plus nodes.sums f.light) = start_small in omega (arith, s)

    pub start_node : f.node < 131072
    start_node = rw root.2.node (omega arith)

    pub steps_some : length (root_of k (tree_for trees k)) ≡ 1
    steps_some = rw root.1 refl

    pub start_some : (added : NodesParts K) → IsAdded k f nodes added → Holds keeps (roots_to k trees) added
    start_some added a =
        let p : Placed = placed k 0 root.0 in
        let entry : made_entry k f.node f.light ≡ entry_of p = ap (λ n. made_entry k n f.light) root.2.node ∙ ap (made_entry k 0) root.2.light in
        let place : place_of k f.node ≡ place_of k 0 = ap (place_of k) root.2.node in
        let old : List Entry = map entry_of (roots_before k trees) in
        let front : IsPermutation (old ++ entry_of p ∷ []) (entry_of p ∷ old) = IsPermutation-to_front old (entry_of p) in
        let came : IsPermutation (entry_of p ∷ nodes.entries) added.entries = rw entry at a.entries in
        let entries : IsPermutation (old ++ entry_of p ∷ []) added.entries = IsPermutation-trans (old ++ entry_of p ∷ []) (entry_of p ∷ nodes.entries) added.entries (IsPermutation-trans (old ++ entry_of p ∷ []) (entry_of p ∷ old) (entry_of p ∷ nodes.entries) front (IsPermutation-cons (entry_of p) old nodes.entries h.entries)) came in
        let owner : ℕ → ℕ = handed_out h.owner (length nodes.slots) (place_of k f.node) in
        let R : Placed → Type 0 = IsKept keeps owner (set nodes.places (place_of k f.node) (length nodes.slots)) (nodes.slots ++ made_slot f ∷ []) in
        let within : place_of k f.node < length nodes.places = omega (arith, a.all, place_within k f.node start_node) in
        let others : EachNode R (roots_before k trees) =
        each_lower (IsKept keeps h.owner nodes.places nodes.slots) R k (roots_before k trees)
        (λ q kq lt. kept_still keeps h.owner nodes.places nodes.slots (place_of k f.node) (made_slot f) q kq (λ e. omega (arith, e, root.2.node, kind_below k, lt)))
        h.kept (lower_before k trees) in
        let mine : R p = kept_new keeps h.owner nodes.places nodes.slots (place_of k f.node) (made_slot f) p (sym place) within (ap (λ (l : NodeLight). l.bound) root.2.light) root.2.kept in
        let kept : EachNode R next = EachNode-append R (roots_before k trees) (p ∷ []) others (mine, tt) in
        subst (λ ps. Holds keeps ps added) next_is
        record {
          entries = rw map-append entries;
          sums = a.sums ∙ sym next_totals;
          owner = owner;
          kept = rw (a.places, a.slots) kept;
        }

-- the nodes of the first cut
pub begun : {K : Type 0} (keeps : LightKind → ℕ → K → Type 0) (trees : Trees) (nodes : NodesParts K) → Holds keeps (roots_to kind.Sun trees) nodes → length nodes.entries ≡ length (roots_of trees) → IsCutOf keeps (roots_of trees) nodes
begun keeps trees nodes h n =
    let is : roots_to kind.Sun trees ≡ roots_of trees = append_assoc (root_of kind.Omni trees.omni) (root_of kind.Oriented trees.oriented) (root_of kind.Sun trees.sun) in
    let none : 0 ≡ length nodes.entries - length (roots_of trees) = omega (arith, n) in
    record {
      some = omega (arith, n);
      holds = subst (λ i. Holds keeps (cut_at (roots_of trees) i) nodes) none (subst (λ ps. Holds keeps ps nodes) is h);
    }

pub begun_length : {K : Type 0} (keeps : LightKind → ℕ → K → Type 0) (trees : Trees) (nodes : NodesParts K) → Holds keeps (roots_to kind.Sun trees) nodes → length nodes.entries ≡ length (roots_of trees)
begun_length keeps trees nodes h =
    let is : roots_to kind.Sun trees ≡ roots_of trees = append_assoc (root_of kind.Omni trees.omni) (root_of kind.Oriented trees.oriented) (root_of kind.Sun trees.sun) in
    length_permutation (map entry_of (roots_to kind.Sun trees)) nodes.entries h.entries ∙ length-map entry_of (roots_to kind.Sun trees) ∙ ap length is
