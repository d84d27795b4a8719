-- The sequence of cuts stops, and what holds of the chosen cut.
use Rattle.std.proofs.Common.{subst, nat_le, nat_lt, ◌||◌, ◌&&◌, ◌≡◌, ℕ, zero, suc, ◌+◌, ◌*◌, ◌≤◌, ◌<◌, arith, List, [], ◌∷◌, ◌++◌, length, refl, true, false, Bool, ap, sym, ◌∙◌, max, ◌==◌, ◌⊎◌, inl, inr, cond, Option, None, Some, length-append}
use Rattle.std.proofs.lemmas.Bool.Decides.{nat_tests}
use Rattle.lc_num.specs.declared.channels.Rgb.{Rgb}
use Rattle.lc_rated.specs.declared.kind.LightKind.{LightKind}
use Rattle.lc_rated.specs.declared.kind.LightKind.TheVariants as kind
use Rattle.lc_rated.specs.LitTrees.{LitTree, lit_leaf, lit_fork, light_of, full_of, IsBounded, AreBounded, red, green, blue, Trees, EachTree}
use Rattle.lc_rated.specs.Cuts.{Placed, key_of, greatest_key, parts_of, replaced, refined, root_of, roots_of, cut_at, est_sum, bound_sum, full_sum, full_light, EachNode, IsNear, IsFraction, is_within, stops, least_passing, refinements, chosen, answer_of, answer, apart}
use Rattle.lc_rated.proofs.CutSums.{est-cons, bound-cons, full-cons, full-cut_at, each_cut_at, each_of_trees}

-- distance of one tree
tree_high : (c : Rgb → ℕ) (t : LitTree) → IsBounded c t → full_of c t ≤ c (light_of t).est + c (light_of t).bound
tree_high c (lit_leaf e) h = omega arith
tree_high c (lit_fork r a b) h = h.1

tree_low : (c : Rgb → ℕ) (t : LitTree) → IsBounded c t → c (light_of t).est ≤ full_of c t + c (light_of t).bound
tree_low c (lit_leaf e) h = omega arith
tree_low c (lit_fork r a b) h = h.0

abbrev pub IsNodeBounded : (Rgb → ℕ) → Placed → Type 0
IsNodeBounded c p = IsBounded c p.tree

-- distance of a cut
sum_high : (c : Rgb → ℕ) (cut : List Placed) → EachNode (IsNodeBounded c) cut → full_sum c cut ≤ est_sum c cut + bound_sum c cut
sum_high c [] h = omega arith
sum_high c (p ∷ ps) h = omega (arith, full-cons c p ps, est-cons c p ps, bound-cons c p ps, tree_high c p.tree h.0, sum_high c ps h.1)

sum_low : (c : Rgb → ℕ) (cut : List Placed) → EachNode (IsNodeBounded c) cut → est_sum c cut ≤ full_sum c cut + bound_sum c cut
sum_low c [] h = omega arith
sum_low c (p ∷ ps) h = omega (arith, full-cons c p ps, est-cons c p ps, bound-cons c p ps, tree_low c p.tree h.0, sum_low c ps h.1)

bounded_parts : (c : Rgb → ℕ) (kind : LightKind) (node : ℕ) (t : LitTree) → IsBounded c t → EachNode (IsNodeBounded c) (parts_of kind node t)
bounded_parts c kind node (lit_leaf e) h = (h, tt)
bounded_parts c kind node (lit_fork r a b) h = (h.2, (h.3, tt))

-- estimate and full sum of each cut differ by at most its bound, in a channel
cut_high : (c : Rgb → ℕ) (roots : List Placed) (k : ℕ) → EachNode (IsNodeBounded c) roots → full_sum c roots ≤ est_sum c (cut_at roots k) + bound_sum c (cut_at roots k)
cut_high c roots k h =
    let each : EachNode (IsNodeBounded c) (cut_at roots k) = each_cut_at (IsNodeBounded c) (λ p. bounded_parts c p.kind p.node p.tree) roots k h in
    omega (arith, full-cut_at c roots k, sum_high c (cut_at roots k) each)

cut_low : (c : Rgb → ℕ) (roots : List Placed) (k : ℕ) → EachNode (IsNodeBounded c) roots → est_sum c (cut_at roots k) ≤ full_sum c roots + bound_sum c (cut_at roots k)
cut_low c roots k h =
    let each : EachNode (IsNodeBounded c) (cut_at roots k) = each_cut_at (IsNodeBounded c) (λ p. bounded_parts c p.kind p.node p.tree) roots k h in
    omega (arith, full-cut_at c roots k, sum_low c (cut_at roots k) each)

pub cut_near : (c : Rgb → ℕ) (trees : Trees) (k : ℕ) → EachTree (IsBounded c) trees → apart (full_sum c (roots_of trees)) (est_sum c (cut_at (roots_of trees) k)) ≤ bound_sum c (cut_at (roots_of trees) k)
cut_near c trees k h =
    let each : EachNode (IsNodeBounded c) (roots_of trees) = each_of_trees (IsBounded c) trees h in
    omega (arith, cut_high c (roots_of trees) k each, cut_low c (roots_of trees) k each)

pub near : (size permille : ℕ) (trees : Trees) → AreBounded trees → IsNear (full_light trees) (answer size permille trees)
near size permille trees h =
    let k : ℕ = refinements size permille (roots_of trees) in
    record { red = cut_near red trees k h.red; green = cut_near green trees k h.green; blue = cut_near blue trees k h.blue }

-- some node of the cut has this key
abbrev pub HasKey : ℕ → List Placed → Type 0
HasKey key [] = ⊥
HasKey key (p ∷ ps) = (key_of p ≡ key) ⊎ HasKey key ps

greatest_has : (cut : List Placed) → 0 < greatest_key cut → HasKey (greatest_key cut) cut
greatest_has [] h = absurd (omega arith)
greatest_has (p ∷ ps) h =
    elim (nat_le (greatest_key ps) (key_of p)) as (λ v. nat_le (greatest_key ps) (key_of p) ≡ v → HasKey (max (key_of p) (greatest_key ps)) (p ∷ ps)) [
      | true ↦ (λ e. inl (let le : greatest_key ps ≤ key_of p = grind (arith, nat_tests) in omega arith))
      | false ↦ (λ e.
          let lt : key_of p < greatest_key ps = grind (arith, nat_tests) in
          let same : greatest_key ps ≡ max (key_of p) (greatest_key ps) = omega arith in
          inr (subst (λ n. HasKey n ps) same (greatest_has ps (omega arith))))
    ] refl

-- the children are two, where the key is positive
parts_two : (kind : LightKind) (node : ℕ) (t : LitTree) (ps : List Placed) → 0 < (light_of t).bound.r + (light_of t).bound.g + (light_of t).bound.b → length (parts_of kind node t ++ ps) ≡ length ps + 2
parts_two kind node (lit_leaf e) ps h = absurd (omega arith)
parts_two kind node (lit_fork r a b) ps h = omega arith

longer : (key : ℕ) (cut : List Placed) → 0 < key → HasKey key cut → length (replaced key cut) ≡ length cut + 1
longer key [] pos has = absurd has
longer key (p ∷ ps) pos has =
    elim (key_of p == key) as (λ v. key_of p == key ≡ v → length (cond v (parts_of p.kind p.node p.tree ++ ps) (p ∷ replaced key ps)) ≡ suc (length ps) + 1) [
      | true ↦ (λ e.
          let same : key_of p ≡ key = grind (arith, nat_tests) in
          let two : length (parts_of p.kind p.node p.tree ++ ps) ≡ length ps + 2 = parts_two p.kind p.node p.tree ps (omega arith) in
          omega arith)
      | false ↦ (λ e.
          let other : key_of p ≡ key → ⊥ = grind (arith, nat_tests) in
          let rest : HasKey key ps = elim has [ inl q ↦ absurd (other q) | inr q ↦ q ] in
          let more : length (replaced key ps) ≡ length ps + 1 = longer key ps pos rest in
          omega arith)
    ] refl

true_not_false : true ≡ false → ⊥
true_not_false h = cc

nat_cases : (n : ℕ) → (n ≡ 0) ⊎ (0 < n)
nat_cases zero = inl refl
nat_cases (suc n) = inr (omega arith)

-- no key, no bound
no_key : (cut : List Placed) → greatest_key cut ≡ 0 → (bound_sum red cut ≡ 0) × (bound_sum green cut ≡ 0) × (bound_sum blue cut ≡ 0)
no_key [] h = (refl, refl, refl)
no_key (p ∷ ps) h =
    let rest : (bound_sum red ps ≡ 0) × (bound_sum green ps ≡ 0) × (bound_sum blue ps ≡ 0) = no_key ps (omega arith) in
    (omega (arith, bound-cons red p ps, rest.0), omega (arith, bound-cons green p ps, rest.1), omega (arith, bound-cons blue p ps, rest.2))

none_within : (c : Rgb → ℕ) (permille : ℕ) (cut : List Placed) → bound_sum c cut ≡ 0 → is_within permille (bound_sum c cut) (est_sum c cut) ≡ true
none_within c permille cut h = grind (arith, nat_tests)

stops_within : (size permille : ℕ) (cut : List Placed) → is_within permille (bound_sum red cut) (est_sum red cut) ≡ true → is_within permille (bound_sum green cut) (est_sum green cut) ≡ true → is_within permille (bound_sum blue cut) (est_sum blue cut) ≡ true → stops size permille cut ≡ true
stops_within size permille cut hr hg hb = rw (hr, hg, hb) (elim (length cut == size) as (λ v. (v || true) ≡ true) [ true ↦ refl | false ↦ refl ])

-- a cut that does not stop has a node of positive key
pub key_positive : (size permille : ℕ) (cut : List Placed) → stops size permille cut ≡ false → 0 < greatest_key cut
key_positive size permille cut h =
    elim (nat_cases (greatest_key cut)) [
      | inl none ↦ (
          let b : (bound_sum red cut ≡ 0) × (bound_sum green cut ≡ 0) × (bound_sum blue cut ≡ 0) = no_key cut none in
          let yes : stops size permille cut ≡ true = stops_within size permille cut (none_within red permille cut b.0) (none_within green permille cut b.1) (none_within blue permille cut b.2) in
          absurd (true_not_false (sym yes ∙ h)))
      | inr some ↦ some
    ]

-- each step makes a cut longer by one
pub length-refined : (size permille : ℕ) (cut : List Placed) → stops size permille cut ≡ false → length (refined cut) ≡ length cut + 1
length-refined size permille cut go =
    let pos : 0 < greatest_key cut = key_positive size permille cut go in
    longer (greatest_key cut) cut pos (greatest_has cut pos)

-- no cut before this one stops
abbrev pub Going : ℕ → ℕ → List Placed → ℕ → Type 0
Going size permille roots k = (j : ℕ) → j < k → stops size permille (cut_at roots j) ≡ false

pub length-cut_at : (size permille : ℕ) (roots : List Placed) (k : ℕ) → Going size permille roots k → length (cut_at roots k) ≡ length roots + k
length-cut_at size permille roots zero go = omega arith
length-cut_at size permille roots (suc k) go =
    let step : length (refined (cut_at roots k)) ≡ length (cut_at roots k) + 1 = length-refined size permille (cut_at roots k) (go k (omega arith)) in
    omega (arith, step, length-cut_at size permille roots k (λ j lt. go j (omega arith)))

-- a cut of the greatest size stops
stops_at_size : (size permille : ℕ) (cut : List Placed) → length cut ≡ size → stops size permille cut ≡ true
stops_at_size size permille cut h =
    let e : (length cut == size) ≡ true = grind (arith, nat_tests) in rw e refl

pub size_differs : (size permille : ℕ) (cut : List Placed) → stops size permille cut ≡ false → length cut ≡ size → ⊥
size_differs size permille cut h same = true_not_false (sym (stops_at_size size permille cut same) ∙ h)

-- no cut before is of the greatest size, and so none is longer
pub size_within : (size permille : ℕ) (roots : List Placed) (k : ℕ) → length roots ≤ size → Going size permille roots k → length (cut_at roots k) ≤ size
size_within size permille roots zero few go = few
size_within size permille roots (suc k) few go =
    let before : length (cut_at roots k) ≤ size = size_within size permille roots k few (λ j lt. go j (omega arith)) in
    let other : length (cut_at roots k) ≡ size → ⊥ = size_differs size permille (cut_at roots k) (go k (omega arith)) in
    let step : length (refined (cut_at roots k)) ≡ length (cut_at roots k) + 1 = length-refined size permille (cut_at roots k) (go k (omega arith)) in
    omega (arith, step, before, other)

-- the least number at which a test holds
pub least_is : (n : ℕ) (p : ℕ → Bool) (k : ℕ) → k ≤ n → p k ≡ true → ((j : ℕ) → j < k → p j ≡ false) → least_passing n p ≡ k
least_is zero p k le holds go = omega arith
least_is (suc n) p zero le holds go = rw holds refl
least_is (suc n) p (suc k) le holds go =
    let no : p 0 ≡ false = go 0 (omega arith) in
    rw no (ap suc (least_is n (λ j. p (suc j)) k (omega arith) holds (λ j lt. go (suc j) (omega arith))))

least_within : (n : ℕ) (p : ℕ → Bool) → least_passing n p ≤ n
least_within zero p = omega arith
least_within (suc n) p =
    elim (p 0) as (λ v. cond v 0 (suc (least_passing n (λ j. p (suc j)))) ≤ suc n) [ true ↦ omega arith | false ↦ omega (arith, least_within n (λ j. p (suc j))) ]

least_before : (n : ℕ) (p : ℕ → Bool) (j : ℕ) → j < least_passing n p → p j ≡ false
least_before zero p j lt = absurd (omega arith)
least_before (suc n) p zero lt =
    elim (p 0) as (λ v. p 0 ≡ v → 0 < cond v 0 (suc (least_passing n (λ i. p (suc i)))) → p 0 ≡ false) [
      | true ↦ (λ e h. absurd (omega arith))
      | false ↦ (λ e h. e)
    ] refl lt
least_before (suc n) p (suc j) lt =
    elim (p 0) as (λ v. suc j < cond v 0 (suc (least_passing n (λ i. p (suc i)))) → p (suc j) ≡ false) [
      | true ↦ (λ h. absurd (omega arith))
      | false ↦ (λ h. least_before n (λ i. p (suc i)) j (omega arith))
    ] lt

least_holds : (n : ℕ) (p : ℕ → Bool) → least_passing n p < n → p (least_passing n p) ≡ true
least_holds zero p lt = absurd (omega arith)
least_holds (suc n) p lt =
    elim (p 0) as (λ v. p 0 ≡ v → cond v 0 (suc (least_passing n (λ i. p (suc i)))) < suc n → p (cond v 0 (suc (least_passing n (λ i. p (suc i))))) ≡ true) [
      | true ↦ (λ e h. e)
      | false ↦ (λ e h. least_holds n (λ i. p (suc i)) (omega arith))
    ] refl lt

below_or_at : (k n : ℕ) → k ≤ n → (k < n) ⊎ (k ≡ n)
below_or_at k n h =
    elim (nat_lt k n) as (λ v. nat_lt k n ≡ v → (k < n) ⊎ (k ≡ n)) [
      | true ↦ (λ e. inl (grind (arith, nat_tests)))
      | false ↦ (λ e. let le : n ≤ k = grind (arith, nat_tests) in inr (omega arith))
    ] refl

-- no cut before the chosen one stops
pub going : (size permille : ℕ) (roots : List Placed) → Going size permille roots (refinements size permille roots)
going size permille roots = least_before size (λ k. stops size permille (cut_at roots k))

-- the chosen cut has no more nodes than the greatest size
pub chosen_within : (size permille : ℕ) (roots : List Placed) → length roots ≤ size → length (chosen size permille roots) ≤ size
chosen_within size permille roots few = size_within size permille roots (refinements size permille roots) few (going size permille roots)

-- the chosen cut stops
pub chosen_stops : (size permille : ℕ) (roots : List Placed) → length roots ≤ size → stops size permille (chosen size permille roots) ≡ true
chosen_stops size permille roots few =
    let p : ℕ → Bool = λ k. stops size permille (cut_at roots k) in
    let len : length (cut_at roots (least_passing size p)) ≡ length roots + least_passing size p = length-cut_at size permille roots (least_passing size p) (going size permille roots) in
    let most : length (cut_at roots (least_passing size p)) ≤ size = chosen_within size permille roots few in
    elim (below_or_at (least_passing size p) size (least_within size p)) [
      | inl lt ↦ least_holds size p lt
      | inr at ↦ stops_at_size size permille (cut_at roots (least_passing size p)) (omega (arith, len, most, at))
    ]

within_of_stops : (size permille : ℕ) (cut : List Placed) → stops size permille cut ≡ true → (length cut ≡ size) ⊎ IsFraction permille (answer_of cut)
within_of_stops size permille cut h =
    elim (length cut == size) as (λ v. length cut == size ≡ v → (v || ((is_within permille (bound_sum red cut) (est_sum red cut) && is_within permille (bound_sum green cut) (est_sum green cut)) && is_within permille (bound_sum blue cut) (est_sum blue cut))) ≡ true → (length cut ≡ size) ⊎ IsFraction permille (answer_of cut)) [
      | true ↦ (λ e t. inl (grind (arith, nat_tests)))
      | false ↦ (λ e t. inr (record { red = grind (arith, nat_tests); green = grind (arith, nat_tests); blue = grind (arith, nat_tests) }))
    ] refl h

pub root_few : (kind : LightKind) (o : Option LitTree) → length (root_of kind o) ≤ 1
root_few kind None = omega arith
root_few kind (Some t) = omega arith

-- there are at most three roots
pub roots_few : (trees : Trees) → length (roots_of trees) ≤ 3
roots_few trees = omega (arith, root_few kind.Omni trees.omni, root_few kind.Oriented trees.oriented, root_few kind.Sun trees.sun, length-append (root_of kind.Omni trees.omni) (root_of kind.Oriented trees.oriented ++ root_of kind.Sun trees.sun), length-append (root_of kind.Oriented trees.oriented) (root_of kind.Sun trees.sun))

pub few_of : (size : ℕ) (trees : Trees) → 3 ≤ size → length (roots_of trees) ≤ size
few_of size trees some = omega (arith, roots_few trees)

pub fraction : (size permille : ℕ) (trees : Trees) → 3 ≤ size → ((answer size permille trees).size ≡ size) ⊎ IsFraction permille (answer size permille trees)
fraction size permille trees some =
    within_of_stops size permille (chosen size permille (roots_of trees)) (chosen_stops size permille (roots_of trees) (few_of size trees some))

pub size_most : (size permille : ℕ) (trees : Trees) → 3 ≤ size → (answer size permille trees).size ≤ size
size_most size permille trees some = chosen_within size permille (roots_of trees) (few_of size trees some)

-- an evaluation for each node
pub evals_size : (size permille : ℕ) (trees : Trees) → (answer size permille trees).evals ≡ (answer size permille trees).size
evals_size size permille trees = refl

pub evals_most : (size permille : ℕ) (trees : Trees) → 3 ≤ size → (answer size permille trees).evals ≤ 2 * size
evals_most size permille trees some = omega (arith, size_most size permille trees some)
