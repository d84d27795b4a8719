-- The tree by halving is a tree over its list: each light stands in one leaf.
use Rattle.std.proofs.Common.{◌≡◌, ℕ, zero, suc, ◌+◌, ◌-◌, ◌*◌, ◌/◌, ◌<◌, ◌≤◌, List, [], ◌∷◌, ◌++◌, length, take, drop, map, slice_get, Some, refl, ap, sym, subst, ◌∙◌, arith, ◌⊎◌, inl, inr, true, false, Bool, cond, if◌then◌else◌, All}
use Rattle.std.proofs.lemmas.List.{take-append-drop, map-append, length-take-le, length-drop}
use Rattle.std.proofs.lemmas.List.Elements.{All-head}
use Rattle.std.proofs.lemmas.List.Sorted.{IsPermutation-refl, IsPermutation-map, IsPermutation-append, IsPermutation-middle, IsPermutation-sym, IsPermutation-trans, length_permutation}
use Rattle.std.specs.Prelude.{IsPermutation}
use Rattle.lc_terms.specs.Kind.{Meaning}
use Rattle.lc_tree.specs.declared.numbered.Numbered.{Numbered}
use Rattle.lc_tree.specs.Node.{Node, leaf, fork, leader, leader_number, numbers}
use Rattle.lc_tree.specs.Rows.{IsTreeIf, IsNumbered, IsLed}
use Rattle.lc_tree.specs.Build.{takes_left, weight_of, forked, halved, put_in_order, in_order, comes_before, numbered, tree_of}
use Rattle.lc_tree.specs.Extents.{longest_axis}
use Rattle.lc_tree.specs.Grown.{StandsIn}
use Rattle.lc_tree.proofs.NodeLaws.{numbered_leader}
use Rattle.lc_tree.proofs.Growing.{of_front, of_back}
use Rattle.lc_tree.proofs.Numbering.{length_numbered, numbers_numbered, numbered_stand}

module _ {X : Type 0} (lt : X → X → Bool) where
  put_permutes : (x : X) (ys : List X) → IsPermutation (x ∷ ys) (put_in_order lt x ys)
  put_permutes x [] = IsPermutation-refl (x ∷ [])
  put_permutes x (y ∷ ys) =
      elim (lt y x) as (λ v. IsPermutation (x ∷ (y ∷ ys)) (if v then y ∷ put_in_order lt x ys else x ∷ (y ∷ ys))) [
        | true ↦ IsPermutation-trans (x ∷ (y ∷ ys)) (y ∷ (x ∷ ys)) (y ∷ put_in_order lt x ys)
            (IsPermutation-middle (x ∷ []) y ys)
            (IsPermutation-append (y ∷ []) (y ∷ []) (x ∷ ys) (put_in_order lt x ys) (IsPermutation-refl (y ∷ [])) (put_permutes x ys))
        | false ↦ IsPermutation-refl (x ∷ (y ∷ ys))
      ]

  pub in_order_permutes : (xs : List X) → IsPermutation xs (in_order lt xs)
  in_order_permutes [] = IsPermutation-refl []
  in_order_permutes (x ∷ xs) =
      IsPermutation-trans (x ∷ xs) (x ∷ in_order lt xs) (put_in_order lt x (in_order lt xs))
      (IsPermutation-append (x ∷ []) (x ∷ []) xs (in_order lt xs) (IsPermutation-refl (x ∷ [])) (in_order_permutes xs))
      (put_permutes x (in_order lt xs))

module _ {L C : Type 0} (m : Meaning L C) (word : ℕ → ℕ) (lights : List L) where
  -- halving gives a tree over the numbered lights
  record Halved (fuel p : ℕ) (es : List (Numbered L)) : Type 0 where
    pub tree : Node L
    pub is : halved m word fuel p es ≡ Some tree
    pub numbers_are : IsPermutation (numbers tree) (map (λ e. e.number) es)
    pub numbered : IsNumbered lights tree
    pub led : IsLed tree

  halved_fork : (fuel p half : ℕ) (e f : Numbered L) (es ys : List (Numbered L)) → (let all : List (Numbered L) = e ∷ (f ∷ es) in half ≡ length all / 2 → ys ≡ in_order (comes_before (longest_axis all)) all → IsPermutation all ys → Halved fuel (p + 1) (take half ys) → Halved fuel (p + 2 * half) (drop half ys) → Halved (suc fuel) p all)
  halved_fork fuel p half e f es ys eh ey moved a b =
      let all : List (Numbered L) = e ∷ (f ∷ es) in
      let test : Bool = takes_left (word p) (weight_of m a.tree) (weight_of m b.tree) in
      let go : (k : ℕ) (zs : List (Numbered L)) → k ≡ half → zs ≡ ys → forked m (word p) (halved m word fuel (p + 1) (take k zs)) (halved m word fuel (p + 2 * k) (drop k zs)) ≡ forked m (word p) (Some a.tree) (Some b.tree) = λ k zs ek ez. rw (ek, ez, a.is, b.is) refl in
      record {
        tree = fork (cond test (leader_number a.tree) (leader_number b.tree)) (cond test (leader a.tree) (leader b.tree)) a.tree b.tree;
        is = go (length all / 2) (in_order (comes_before (longest_axis all)) all) (sym eh) (sym ey);
        numbers_are =
            IsPermutation-trans (numbers a.tree ++ numbers b.tree) (map (λ e. e.number) ys) (map (λ e. e.number) all)
            (subst (λ ns. IsPermutation (numbers a.tree ++ numbers b.tree) ns) (sym (map-append (λ (e : Numbered L). e.number) (take half ys) (drop half ys)) ∙ ap (map (λ (e : Numbered L). e.number)) (take-append-drop half ys))
            (IsPermutation-append (numbers a.tree) (map (λ e. e.number) (take half ys)) (numbers b.tree) (map (λ e. e.number) (drop half ys)) a.numbers_are b.numbers_are))
            (IsPermutation-map (λ (e : Numbered L). e.number) ys all (IsPermutation-sym all ys moved));
        numbered = (elim test as (λ v. slice_get lights (cond v (leader_number a.tree) (leader_number b.tree)) ≡ Some (cond v (leader a.tree) (leader b.tree))) [ true ↦ numbered_leader lights a.tree a.numbered | false ↦ numbered_leader lights b.tree b.numbered ], a.numbered, b.numbered);
        led = (elim test as (λ v. ((cond v (leader_number a.tree) (leader_number b.tree) ≡ leader_number a.tree) × (cond v (leader a.tree) (leader b.tree) ≡ leader a.tree)) ⊎ ((cond v (leader_number a.tree) (leader_number b.tree) ≡ leader_number b.tree) × (cond v (leader a.tree) (leader b.tree) ≡ leader b.tree))) [ true ↦ inl (refl, refl) | false ↦ inr (refl, refl) ], a.led, b.led);
      }

  halving : (fuel p : ℕ) (es : List (Numbered L)) → length es ≤ fuel → 0 < length es → All (StandsIn lights) es → Halved fuel p es
  halving zero p es few some h = absurd (omega (arith, few, some))
  halving (suc fuel) p [] few some h = absurd (omega (arith, some))
  halving (suc fuel) p (e ∷ []) few some h = record {
    tree = leaf e.number e.light;
    is = refl;
    numbers_are = IsPermutation-refl (e.number ∷ []);
    numbered = All-head (StandsIn lights) e [] h;
    led = tt;
  }
  halving (suc fuel) p (e ∷ (f ∷ es)) few some h =
      let all : List (Numbered L) = e ∷ (f ∷ es) in
      let ys : List (Numbered L) = in_order (comes_before (longest_axis all)) all in
      let half : ℕ = length all / 2 in
      let moved : IsPermutation all ys = in_order_permutes (comes_before (longest_axis all)) all in
      let same : length ys ≡ length all = length_permutation all ys moved in
      let two : length all ≡ suc (suc (length es)) = refl in
      let front : length (take half ys) ≡ half = length-take-le half ys (omega (arith, same)) in
      let back : length (drop half ys) ≡ length ys - half = length-drop half ys in
      halved_fork fuel p half e f es ys refl refl moved
      (halving fuel (p + 1) (take half ys) (omega (arith, front, two, few)) (omega (arith, front, two)) (of_front (StandsIn lights) half all ys (take half ys) moved refl h))
      (halving fuel (p + 2 * half) (drop half ys) (omega (arith, back, same, two, few)) (omega (arith, back, same, two)) (of_back (StandsIn lights) half all ys (drop half ys) moved refl h))

module _ {L C : Type 0} (m : Meaning L C) (word : ℕ → ℕ) where
  tree_of_some : (lights : List L) → 0 < length lights → All m.valid_light lights → length lights ≤ 65536 → IsTreeIf m.valid_light (record { lights = lights; root = tree_of m word lights })
  tree_of_some lights some valid few =
      let long : length (numbered m lights) ≡ length lights = length_numbered m lights in
      let h : Halved m word lights (length lights) 0 (numbered m lights) = halving m word lights (length lights) 0 (numbered m lights) (omega (arith, long)) (omega (arith, long, some)) (numbered_stand m lights) in
      rw h.is (record {
        numbered = h.numbered;
        once = subst (IsPermutation (numbers h.tree)) (numbers_numbered m lights) h.numbers_are;
        led = h.led;
        valid_lights = valid;
        few = few;
      })

  -- the tree of a list of valid lights has each of them in one leaf
  pub tree_of_is : (lights : List L) → All m.valid_light lights → length lights ≤ 65536 → IsTreeIf m.valid_light (record { lights = lights; root = tree_of m word lights })
  tree_of_is [] valid few = refl
  tree_of_is (l ∷ ls) valid few = tree_of_some (l ∷ ls) (omega arith) valid few
