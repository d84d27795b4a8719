-- The first entry stands for the first node of greatest key, and a step of the loop is a step of the sequence.
use Rattle.std.proofs.Common.{◌≡◌, ℕ, zero, suc, ◌+◌, ◌*◌, ◌<◌, ◌≤◌, ◌^◌, inl, inr, List, [], ◌∷◌, ◌++◌, map, length, take, drop, slice_get, sum_by, Some, All, Contains, IsPermutation, refl, true, false, ap, sym, subst, ◌∙◌, ◌==◌, cond, arith, add-one}
use Rattle.std.proofs.lemmas.Bool.Decides.{nat_tests}
use Rattle.std.proofs.lemmas.List.{map-append, take-map, drop-map}
use Rattle.std.proofs.lemmas.List.Elements.{All-contains}
use Rattle.std.proofs.lemmas.List.Sorted.{IsPermutation-sym, All-permutation, Contains-permutation}
use Rattle.std.proofs.lemmas.List.Sums.{sum_by-cons}
use Rattle.std.proofs.lemmas.Option.{same_Some, get_or_from_slice_get, slice_get_within}
use Rattle.lc_num.specs.declared.channels.Rgb.{Rgb}
use Rattle.lc_heap.specs.Order.{comes_before, IsFirstOf}
use Rattle.lc_heap.specs.declared.entry.Entry.{Entry}
use Rattle.lc_rated.specs.declared.light.NodeLight.{NodeLight}
use Rattle.lc_rated.specs.declared.kind.LightKind.{LightKind}
use Rattle.lc_rated.specs.LitTrees.{LitTree, lit_leaf, lit_fork, light_of, leaf_count, kind_number, red, green, blue, Trees, tree_for, find}
use Rattle.lc_rated.specs.Cuts.{Placed, key_of, greatest_key, parts_of, replaced, refined, roots_of, cut_at, est_sum, bound_sum, totals_of, AreLimited, IsBefore, IsInOrder, light_key}
use Rattle.lc_rated.specs.Nodes.{entry_of, IsSmall, IsMoved, CanMove}
use Rattle.lc_rated.proofs.CutSums.{EachNode-at}
use Rattle.lc_rated.proofs.CutLimits.{totals_small}
use Rattle.lc_rated.proofs.CutOrder.{cut_in_order}
use Rattle.lc_rated.proofs.NodeFinding.{IsIn, cut_in, left_of, right_of}

pub length-map : {X Y : Type 0} (f : X → Y) (xs : List X) → length (map f xs) ≡ length xs
length-map f [] = refl
length-map f (x ∷ xs) = ap suc (length-map f xs)

pub get_map : {X Y : Type 0} (f : X → Y) (xs : List X) (j : ℕ) (x : X) → slice_get xs j ≡ Some x → slice_get (map f xs) j ≡ Some (f x)
get_map f [] j x at = absurd (omega (arith, slice_get_within [] j x at))
get_map f (y ∷ ys) zero x at = ap (λ z. Some (f z)) (same_Some _ _ at)
get_map f (y ∷ ys) (suc j) x at = get_map f ys j x at

get_some : {A : Type 0} → (xs : List A) (i : ℕ) → i < length xs → (x : A) × (slice_get xs i ≡ Some x)
get_some [] i h = absurd (omega arith)
get_some (x ∷ xs) zero h = (x, refl)
get_some (x ∷ xs) (suc i) h = get_some xs i (omega arith)

replaced_at : (key : ℕ) (cut : List Placed) (b : ℕ) (p : Placed) → slice_get cut b ≡ Some p → key_of p ≡ key → ((j : ℕ) (q : Placed) → j < b → slice_get cut j ≡ Some q → key_of q ≡ key → ⊥) → replaced key cut ≡ take b cut ++ (parts_of p.kind p.node p.tree ++ drop (b + 1) cut)
replaced_at key [] b p at same before = absurd (omega (arith, slice_get_within [] b p at))
replaced_at key (x ∷ xs) zero p at same before =
    let e : x ≡ p = same_Some _ _ at in
    let k : key_of x ≡ key = ap key_of e ∙ same in
    let hit : (key_of x == key) ≡ true = grind (arith, nat_tests) in
    subst (λ (q : Placed). cond (key_of x == key) (parts_of x.kind x.node x.tree ++ xs) (x ∷ replaced key xs) ≡ parts_of q.kind q.node q.tree ++ xs) e (rw hit refl)
replaced_at key (x ∷ xs) (suc b) p at same before =
    let other : key_of x ≡ key → ⊥ = before 0 x (omega arith) refl in
    let miss : (key_of x == key) ≡ false = grind (arith, nat_tests) in
    let d : drop (suc b + 1) (x ∷ xs) ≡ drop (b + 1) xs = rw (add-one, add-one) refl in
    rw (miss, d) (ap (λ t. x ∷ t) (replaced_at key xs b p at same (λ j q lt h. before (suc j) q (omega arith) h)))

key_below : (cut : List Placed) (b : ℕ) (p : Placed) → slice_get cut b ≡ Some p → key_of p ≤ greatest_key cut
key_below [] b p at = absurd (omega (arith, slice_get_within [] b p at))
key_below (x ∷ xs) zero p at =
    let e : x ≡ p = same_Some _ _ at in
    omega (arith, ap key_of e)
key_below (x ∷ xs) (suc b) p at = omega (arith, key_below xs b p at)

key_above : (cut : List Placed) (n : ℕ) → ((j : ℕ) (q : Placed) → slice_get cut j ≡ Some q → key_of q ≤ n) → greatest_key cut ≤ n
key_above [] n h = omega arith
key_above (x ∷ xs) n h = omega (arith, h 0 x refl, key_above xs n (λ j q at. h (suc j) q at))

abbrev pub placed : LightKind → ℕ → LitTree → Placed
placed kind node tree = record { kind = kind; node = node; tree = tree }

-- a fact of the node that stands at one place before another, where the nodes are in order
order_at : (cut : List Placed) (j i : ℕ) (q p : Placed) → IsInOrder cut → j < i → slice_get cut j ≡ Some q → slice_get cut i ≡ Some p → IsBefore q p
order_at [] j i q p h lt at_q at_p = absurd (omega (arith, slice_get_within [] j q at_q))
order_at (x ∷ xs) j zero q p h lt at_q at_p = absurd (omega arith)
order_at (x ∷ xs) zero (suc i) q p h lt at_q at_p =
    let e : x ≡ q = same_Some _ _ at_q in
    subst (λ (y : Placed). IsBefore y p) e (EachNode-at (IsBefore x) xs i p h.0 at_p)
order_at (x ∷ xs) (suc j) (suc i) q p h lt at_q at_p = order_at xs j i q p h.1 (omega arith) at_q at_p

-- no entry of greater key comes after, and of one key none of lower kind or number
key_le : (a b : Entry) → comes_before a b ≡ false → a.key ≤ b.key
unfolding comes_before
key_le a b h = grind (arith, nat_tests)

no_lower : (a b : Entry) → comes_before a b ≡ false → a.key ≡ b.key → a.kind < b.kind → ⊥
unfolding comes_before
no_lower a b h key kind = grind (arith, nat_tests)

no_less : (a b : Entry) → comes_before a b ≡ false → a.key ≡ b.key → a.kind ≡ b.kind → a.node < b.node → ⊥
unfolding comes_before
no_less a b h key kind node = grind (arith, nat_tests)

-- two entries of which neither comes before the other are one
entry_same : (a b : Entry) → comes_before a b ≡ false → comes_before b a ≡ false → a ≡ b
entry_same a b ab ba =
    let key : a.key ≡ b.key = omega (arith, key_le a b ab, key_le b a ba) in
    let lower : a.kind < b.kind → ⊥ = no_lower a b ab key in
    let higher : b.kind < a.kind → ⊥ = no_lower b a ba (sym key) in
    let kind : a.kind ≡ b.kind = omega arith in
    let less : a.node < b.node → ⊥ = no_less a b ab key kind in
    let more : b.node < a.node → ⊥ = no_less b a ba (sym key) (sym kind) in
    let node : a.node ≡ b.node = omega arith in
    let f : ℕ → ℕ → ℕ → Entry = λ x y z. record { key = x; kind = y; node = z } in
    ap (λ n. f n a.kind a.node) key ∙ ap (λ n. f b.key n a.node) kind ∙ ap (f b.key b.kind) node

pub first_same : (es : List Entry) (a b : Entry) → Contains es a → IsFirstOf es a → Contains es b → IsFirstOf es b → a ≡ b
first_same es a b has_a first_a has_b first_b =
    entry_same a b (All-contains (λ o. comes_before o b ≡ false) es a first_b has_a) (All-contains (λ o. comes_before o a ≡ false) es b first_a has_b)

-- where the entry that comes before all others is that of the first node of greatest key
pub record Leads (cut : List Placed) (e : Entry) : Type 0 where
  pub at : ℕ
  pub node : Placed
  pub here : slice_get cut at ≡ Some node
  pub entry : entry_of node ≡ e
  pub key : greatest_key cut ≡ key_of node
  pub is : refined cut ≡ take at cut ++ (parts_of node.kind node.node node.tree ++ drop (at + 1) cut)

pub leads : (cut : List Placed) (es : List Entry) (e : Entry) → IsInOrder cut → IsPermutation (map entry_of cut) es → Contains es e → IsFirstOf es e → Leads cut e
leads cut es e order same has first =
    let back : IsPermutation es (map entry_of cut) = IsPermutation-sym (map entry_of cut) es same in
    let c : Contains (map entry_of cut) e = Contains-permutation es (map entry_of cut) e back has in
    let found : (p : Placed) × (slice_get cut c.0 ≡ Some p) = get_some cut c.0 (omega (arith, c.1, length-map entry_of cut)) in
    let p : Placed = found.0 in
    let entry : entry_of p ≡ e = sym (get_or_from_slice_get (map entry_of cut) c.0 (entry_of p) e (get_map entry_of cut c.0 p found.1)) ∙ c.2 in
    let all : All (λ o. comes_before o e ≡ false) (map entry_of cut) = All-permutation (λ o. comes_before o e ≡ false) es (map entry_of cut) back first in
    let not_before : (j : ℕ) (q : Placed) → slice_get cut j ≡ Some q → comes_before (entry_of q) (entry_of p) ≡ false =
    (λ j q at.
    let here : Contains (map entry_of cut) (entry_of q) = (j, omega (arith, slice_get_within cut j q at, length-map entry_of cut), get_or_from_slice_get (map entry_of cut) j (entry_of q) (entry_of q) (get_map entry_of cut j q at)) in
    subst (λ (x : Entry). comes_before (entry_of q) x ≡ false) (sym entry) (All-contains (λ o. comes_before o e ≡ false) (map entry_of cut) (entry_of q) all here)) in
    let above : (j : ℕ) (q : Placed) → slice_get cut j ≡ Some q → key_of q ≤ key_of p = (λ j q at. key_le (entry_of q) (entry_of p) (not_before j q at)) in
    let key : greatest_key cut ≡ key_of p = omega (arith, key_below cut c.0 p found.1, key_above cut (key_of p) above) in
    let earlier : (j : ℕ) (q : Placed) → j < c.0 → slice_get cut j ≡ Some q → key_of q ≡ key_of p → ⊥ =
    (λ j q lt at same_key. elim (order_at cut j c.0 q p order lt at found.1) [
      | inl kind ↦ no_lower (entry_of q) (entry_of p) (not_before j q at) same_key kind
      | inr r ↦ no_less (entry_of q) (entry_of p) (not_before j q at) same_key r.0 r.1
    ]) in
    record {
      at = c.0;
      node = p;
      here = found.1;
      entry = entry;
      key = key;
      is = ap (λ n. replaced n cut) key ∙ replaced_at (key_of p) cut c.0 p found.1 refl earlier;
    }

-- what the first entry stands for, and the next cut
pub record Step (trees : Trees) (cut : List Placed) (kind : LightKind) (e : Entry) : Type 0 where
  pub at : ℕ
  pub light : NodeLight
  pub left : LitTree
  pub right : LitTree
  pub found : find trees kind e.node ≡ Some (lit_fork light left right)
  pub left_found : find trees kind (e.node + 1) ≡ Some left
  pub right_found : find trees kind (e.node + 2 * leaf_count left) ≡ Some right
  pub here : slice_get cut at ≡ Some (placed kind e.node (lit_fork light left right))
  pub entry : e ≡ entry_of (placed kind e.node (lit_fork light left right))
  pub is : refined cut ≡ take at cut ++ (placed kind (e.node + 1) left ∷ placed kind (e.node + 2 * leaf_count left) right ∷ drop (at + 1) cut)

step_in : (trees : Trees) (cut : List Placed) (kind : LightKind) (e : Entry) (at : ℕ) (t : LitTree) → slice_get cut at ≡ Some (placed kind e.node t) → e ≡ entry_of (placed kind e.node t) → refined cut ≡ take at cut ++ (parts_of kind e.node t ++ drop (at + 1) cut) → find trees kind e.node ≡ Some t → 0 < (light_of t).bound.r + (light_of t).bound.g + (light_of t).bound.b → Step trees cut kind e
step_in trees cut kind e at (lit_leaf q) here entry is found some = absurd (omega arith)
step_in trees cut kind e at (lit_fork r a b) here entry is found some =
    record {
      at = at;
      light = r;
      left = a;
      right = b;
      found = found;
      left_found = left_of (tree_for trees kind) e.node r a b found;
      right_found = right_of (tree_for trees kind) e.node r a b found;
      here = here;
      entry = entry;
      is = is;
    }

placed_is : (p : Placed) (kind : LightKind) (node : ℕ) → kind ≡ p.kind → node ≡ p.node → p ≡ placed kind node p.tree
placed_is p kind node ek en = ap (λ (k : LightKind). placed k p.node p.tree) (sym ek) ∙ ap (λ n. placed kind n p.tree) (sym en)

step_led : (trees : Trees) (k : ℕ) → 0 < greatest_key (cut_at (roots_of trees) k) → (e : Entry) (l : Leads (cut_at (roots_of trees) k) e) (kind : LightKind) → kind ≡ l.node.kind → Step trees (cut_at (roots_of trees) k) kind e
step_led trees k some e l kind ek =
    let cut : List Placed = cut_at (roots_of trees) k in
    let en : e.node ≡ l.node.node = ap (λ (x : Entry). x.node) (sym l.entry) in
    let p : l.node ≡ placed kind e.node l.node.tree = placed_is l.node kind e.node ek en in
    step_in trees cut kind e l.at l.node.tree
    (l.here ∙ ap Some p)
    (sym l.entry ∙ ap entry_of p)
    (l.is ∙ ap (λ (q : Placed). take l.at cut ++ (parts_of q.kind q.node q.tree ++ drop (l.at + 1) cut)) p)
    (subst (λ (q : Placed). find trees q.kind q.node ≡ Some q.tree) p (EachNode-at (IsIn trees) cut l.at l.node (cut_in trees k) l.here))
    (omega (arith, l.key, some))

-- what the code finds at the first entry
pub step_of : (trees : Trees) (k : ℕ) (es : List Entry) (e : Entry) (kind : LightKind) → 0 < greatest_key (cut_at (roots_of trees) k) → IsPermutation (map entry_of (cut_at (roots_of trees) k)) es → Contains es e → IsFirstOf es e → ((k : LightKind) → e.kind ≡ kind_number k → kind ≡ k) → Step trees (cut_at (roots_of trees) k) kind e
step_of trees k es e kind some same has first known =
    let l : Leads (cut_at (roots_of trees) k) e = leads (cut_at (roots_of trees) k) es e (cut_in_order trees k) same has first in
    step_led trees k some e l kind (known l.node.kind (ap (λ (x : Entry). x.kind) (sym l.entry)))

-- the sums, where one node gives way to two
sum_around : (f : Placed → ℕ) (cut : List Placed) (at : ℕ) (p x y : Placed) → slice_get cut at ≡ Some p → (sum_by f (take at cut ++ (x ∷ y ∷ drop (at + 1) cut)) + f p ≡ sum_by f cut + (f x + f y)) × (f p ≤ sum_by f cut)
sum_around f [] at p x y here = absurd (omega (arith, slice_get_within [] at p here))
sum_around f (q ∷ qs) zero p x y here =
    let same : q ≡ p = same_Some _ _ here in
    (omega (arith, ap f same, sum_by-cons f x (y ∷ qs), sum_by-cons f y qs, sum_by-cons f q qs), omega (arith, ap f same, sum_by-cons f q qs))
sum_around f (q ∷ qs) (suc at) p x y here =
    let d : drop (suc at + 1) (q ∷ qs) ≡ drop (at + 1) qs = rw (add-one, add-one) refl in
    let rest = sum_around f qs at p x y here in
    (rw d (omega (arith, rest.0, sum_by-cons f q qs, sum_by-cons f q (take at qs ++ (x ∷ y ∷ drop (at + 1) qs)))), omega (arith, rest.1, sum_by-cons f q qs))

pub map_around : {X Y : Type 0} (f : X → Y) (xs : List X) (i : ℕ) (x y : X) → map f (take i xs ++ (x ∷ y ∷ drop (i + 1) xs)) ≡ take i (map f xs) ++ (f x ∷ f y ∷ drop (i + 1) (map f xs))
map_around f xs i x y = rw (map-append, take-map, drop-map) refl

-- in a channel: the sums of the next cut, and that the part is within the sum
est_step : (c : Rgb → ℕ) (trees : Trees) (cut : List Placed) (kind : LightKind) (e : Entry) (s : Step trees cut kind e) → (est_sum c (refined cut) + c s.light.est ≡ est_sum c cut + (c (light_of s.left).est + c (light_of s.right).est)) × (c s.light.est ≤ est_sum c cut)
est_step c trees cut kind e s =
    let f : Placed → ℕ = λ p. c (light_of p.tree).est in
    let r = sum_around f cut s.at (placed kind e.node (lit_fork s.light s.left s.right)) (placed kind (e.node + 1) s.left) (placed kind (e.node + 2 * leaf_count s.left) s.right) s.here in
    (rw s.is r.0, r.1)

bound_step : (c : Rgb → ℕ) (trees : Trees) (cut : List Placed) (kind : LightKind) (e : Entry) (s : Step trees cut kind e) → (bound_sum c (refined cut) + c s.light.bound ≡ bound_sum c cut + (c (light_of s.left).bound + c (light_of s.right).bound)) × (c s.light.bound ≤ bound_sum c cut)
bound_step c trees cut kind e s =
    let f : Placed → ℕ = λ p. c (light_of p.tree).bound in
    let r = sum_around f cut s.at (placed kind e.node (lit_fork s.light s.left s.right)) (placed kind (e.node + 1) s.left) (placed kind (e.node + 2 * leaf_count s.left) s.right) s.here in
    (rw s.is r.0, r.1)

next_small : (trees : Trees) (k : ℕ) → AreLimited trees → IsSmall (totals_of (refined (cut_at (roots_of trees) k)))
next_small trees k h = totals_small trees (suc k) h

-- what the code may add up at a step
pub can_move_est : (trees : Trees) (k : ℕ) → AreLimited trees → (kind : LightKind) (e : Entry) (s : Step trees (cut_at (roots_of trees) k) kind e) → CanMove (totals_of (cut_at (roots_of trees) k)).est s.light.est (light_of s.left).est (light_of s.right).est
can_move_est trees k h kind e s =
    let cut : List Placed = cut_at (roots_of trees) k in
    let small : IsSmall (totals_of (refined cut)) = next_small trees k h in
    let r = est_step red trees cut kind e s in
    let g = est_step green trees cut kind e s in
    let b = est_step blue trees cut kind e s in
    record {
      r = r.1;
      g = g.1;
      b = b.1;
      fits_r = omega (arith, r.0, small.est_r);
      fits_g = omega (arith, g.0, small.est_g);
      fits_b = omega (arith, b.0, small.est_b);
    }

pub can_move_bound : (trees : Trees) (k : ℕ) → AreLimited trees → (kind : LightKind) (e : Entry) (s : Step trees (cut_at (roots_of trees) k) kind e) → CanMove (totals_of (cut_at (roots_of trees) k)).bound s.light.bound (light_of s.left).bound (light_of s.right).bound
can_move_bound trees k h kind e s =
    let cut : List Placed = cut_at (roots_of trees) k in
    let small : IsSmall (totals_of (refined cut)) = next_small trees k h in
    let r = bound_step red trees cut kind e s in
    let g = bound_step green trees cut kind e s in
    let b = bound_step blue trees cut kind e s in
    record {
      r = r.1;
      g = g.1;
      b = b.1;
      fits_r = omega (arith, r.0, small.bound_r);
      fits_g = omega (arith, g.0, small.bound_g);
      fits_b = omega (arith, b.0, small.bound_b);
    }

-- the keys of the children are numbers of the code
pub keys_small : (trees : Trees) (k : ℕ) → AreLimited trees → (kind : LightKind) (e : Entry) (s : Step trees (cut_at (roots_of trees) k) kind e) → (light_key (light_of s.left) < 2 ^ 128) × (light_key (light_of s.right) < 2 ^ 128)
keys_small trees k h kind e s =
    let cut : List Placed = cut_at (roots_of trees) k in
    let small : IsSmall (totals_of (refined cut)) = next_small trees k h in
    let r = bound_step red trees cut kind e s in
    let g = bound_step green trees cut kind e s in
    let b = bound_step blue trees cut kind e s in
    (omega (arith, r, g, b, small), omega (arith, r, g, b, small))

rgb_same : (a b : Rgb) → a.r ≡ b.r → a.g ≡ b.g → a.b ≡ b.b → a ≡ b
rgb_same a b hr hg hb =
    let f : ℕ → ℕ → ℕ → Rgb = λ x y z. record { r = x; g = y; b = z } in
    ap (λ x. f x a.g a.b) hr ∙ ap (λ y. f b.r y a.b) hg ∙ ap (λ z. f b.r b.g z) hb

pub moved_est : (trees : Trees) (cut : List Placed) (kind : LightKind) (e : Entry) (s : Step trees cut kind e) (next : Rgb) → IsMoved (totals_of cut).est s.light.est (light_of s.left).est (light_of s.right).est next → next ≡ (totals_of (refined cut)).est
moved_est trees cut kind e s next h =
    let r = est_step red trees cut kind e s in
    let g = est_step green trees cut kind e s in
    let b = est_step blue trees cut kind e s in
    rgb_same next (totals_of (refined cut)).est (omega (arith, h.r, r.0)) (omega (arith, h.g, g.0)) (omega (arith, h.b, b.0))

pub moved_bound : (trees : Trees) (cut : List Placed) (kind : LightKind) (e : Entry) (s : Step trees cut kind e) (next : Rgb) → IsMoved (totals_of cut).bound s.light.bound (light_of s.left).bound (light_of s.right).bound next → next ≡ (totals_of (refined cut)).bound
moved_bound trees cut kind e s next h =
    let r = bound_step red trees cut kind e s in
    let g = bound_step green trees cut kind e s in
    let b = bound_step blue trees cut kind e s in
    rgb_same next (totals_of (refined cut)).bound (omega (arith, h.r, r.0)) (omega (arith, h.g, g.0)) (omega (arith, h.b, b.0))
