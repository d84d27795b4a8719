-- what holds of the nodes of a tree
use Rattle.std.proofs.Common.{◌≡◌, ℕ, zero, suc, ◌+◌, ◌-◌, ◌*◌, ◌<◌, ◌≤◌, nat_lt, List, [], ◌∷◌, ◌++◌, Option, None, Some, slice_get, length, refl, ap, sym, subst, ◌∙◌, arith, true, false, cond, get_or, length-append, MatchOption, IsSomeAnd}
use Rattle.std.specs.List.{range_with_len}
use Rattle.std.proofs.lemmas.List.Sorted.{length_permutation}
use Rattle.std.proofs.lemmas.List.FromFn.{length-range_with_len}
use Rattle.std.proofs.lemmas.Option.{none-some, same_Some, slice_get-get_or}
use Rattle.std.proofs.lemmas.Bool.Decides.{nat_tests}
use Rattle.lc_tree.specs.declared.row.Row.{Row}
use Rattle.lc_tree.specs.Node.{Node, Kept, kids_of, leaf, fork, leaf_count, node_count, node_at, node_of, count_of, clump_of, leader, leader_number, numbers}
use Rattle.lc_tree.specs.Rows.{rows_of, row_of, read_rows, leaves_positive, IsLaidIf, IsLaid, IsTree, IsRowOf, IsNumbered, IsLed}

get_left : {A : Type 0} → (xs ys : List A) (i : ℕ) → i < length xs → slice_get (xs ++ ys) i ≡ slice_get xs i
get_left [] ys i h = absurd (omega arith)
get_left (x ∷ xs) ys zero h = refl
get_left (x ∷ xs) ys (suc i) h = get_left xs ys i (omega arith)

get_right : {A : Type 0} → (xs ys : List A) (i : ℕ) → slice_get (xs ++ ys) (length xs + i) ≡ slice_get ys i
get_right [] ys i = let at : 0 + i ≡ i = omega arith in ap (slice_get ys) at
get_right (x ∷ xs) ys i =
    let at : suc (length xs) + i ≡ suc (length xs + i) = omega arith in
    ap (slice_get (x ∷ (xs ++ ys))) at ∙ get_right xs ys i

module _ {L : Type 0} where
  leaf_fork : {m n : ℕ} {k l : L} {a b : Node L} → Some (leaf m k) ≡ Some (fork n l a b) → ⊥
  leaf_fork e = cc

  pub counts : (t : Node L) → node_count t + 1 ≡ 2 * leaf_count t
  counts (leaf n l) = refl
  counts (fork n l a b) = omega (arith, counts a, counts b)

  pub root_at : (t : Node L) → node_at t 0 ≡ Some t
  root_at (leaf n l) = refl
  root_at (fork n l a b) = refl

  -- what holds of the root and goes down to children holds of each node
  pub node_every : (Q : Node L → Type 0) → ((n : ℕ) (l : L) (a b : Node L) → Q (fork n l a b) → Q a × Q b) → (t : Node L) (p : ℕ) (s : Node L) → node_at t p ≡ Some s → Q t → Q s
  node_every Q down (leaf n l) zero s e h = subst Q (same_Some _ _ e) h
  node_every Q down (leaf n l) (suc p) s e h = absurd (none-some _ e)
  node_every Q down (fork n l a b) zero s e h = subst Q (same_Some _ _ e) h
  node_every Q down (fork n l a b) (suc p) s e h =
      elim (nat_lt p (node_count a)) as (λ v. cond v (node_at a p) (node_at b (p - node_count a)) ≡ Some s → Q s) [
        | true ↦ (λ f. node_every Q down a p s f (down n l a b h).0)
        | false ↦ (λ f. node_every Q down b (p - node_count a) s f (down n l a b h).1)
      ] e

  -- each number below the count is a node's
  pub at_within : (t : Node L) (p : ℕ) → p < node_count t → (s : Node L) × (node_at t p ≡ Some s)
  at_within (leaf n l) zero h = (leaf n l, refl)
  at_within (leaf n l) (suc p) h = absurd (omega arith)
  at_within (fork n l a b) zero h = (fork n l a b, refl)
  at_within (fork n l a b) (suc p) h =
      elim (nat_lt p (node_count a)) as (λ v. nat_lt p (node_count a) ≡ v → (s : Node L) × (cond v (node_at a p) (node_at b (p - node_count a)) ≡ Some s)) [
        | true ↦ (λ e. at_within a p (grind (arith, nat_tests)))
        | false ↦ (λ e. let le : node_count a ≤ p = grind (arith, nat_tests) in at_within b (p - node_count a) (omega arith))
      ] refl

  -- the nodes below a node have the numbers from its own on
  pub at_room : (t : Node L) (p : ℕ) (s : Node L) → node_at t p ≡ Some s → p + node_count s ≤ node_count t
  at_room (leaf n l) zero s e = let same : leaf n l ≡ s = same_Some _ _ e in subst (λ u. 0 + node_count u ≤ 1) same (omega arith)
  at_room (leaf n l) (suc p) s e = absurd (none-some _ e)
  at_room (fork n l a b) zero s e = let same : fork n l a b ≡ s = same_Some _ _ e in subst (λ u. 0 + node_count u ≤ 1 + (node_count a + node_count b)) same (omega arith)
  at_room (fork n l a b) (suc p) s e =
      elim (nat_lt p (node_count a)) as (λ v. nat_lt p (node_count a) ≡ v → cond v (node_at a p) (node_at b (p - node_count a)) ≡ Some s → suc p + node_count s ≤ 1 + (node_count a + node_count b)) [
        | true ↦ (λ q f. omega (arith, at_room a p s f))
        | false ↦ (λ q f. let le : node_count a ≤ p = grind (arith, nat_tests) in omega (arith, at_room b (p - node_count a) s f))
      ] refl e

  pub node_some : (t : Node L) → 0 < node_count t
  node_some (leaf n l) = omega arith
  node_some (fork n l a b) = omega arith

  -- inside the left and the right part of a tree
  in_left : (n : ℕ) (l : L) (a b : Node L) (p : ℕ) → p < node_count a → node_at (fork n l a b) (suc p) ≡ node_at a p
  in_left n l a b p h = let yes : nat_lt p (node_count a) ≡ true = grind (arith, nat_tests) in rw yes refl

  in_right : (n : ℕ) (l : L) (a b : Node L) (p : ℕ) → node_at (fork n l a b) (suc (node_count a + p)) ≡ node_at b p
  in_right n l a b p =
      let no : nat_lt (node_count a + p) (node_count a) ≡ false = grind (arith, nat_tests) in
      let d : (node_count a + p) - node_count a ≡ p = omega arith in
      rw (no, d) refl

  -- the children of a node have their numbers
  pub left_at : (t : Node L) (p : ℕ) (n : ℕ) (l : L) (a b : Node L) → node_at t p ≡ Some (fork n l a b) → node_at t (suc p) ≡ Some a
  left_at (leaf m k) zero n l a b e = absurd (leaf_fork e)
  left_at (leaf m k) (suc p) n l a b e = absurd (none-some _ e)
  left_at (fork m k c d) zero n l a b e =
      let same : c ≡ a = cc in
      in_left m k c d 0 (node_some c) ∙ root_at c ∙ ap Some same
  left_at (fork m k c d) (suc p) n l a b e =
      elim (nat_lt p (node_count c)) as (λ v. nat_lt p (node_count c) ≡ v → cond v (node_at c p) (node_at d (p - node_count c)) ≡ Some (fork n l a b) → node_at (fork m k c d) (suc (suc p)) ≡ Some a) [
        | true ↦ (λ q f. in_left m k c d (suc p) (omega (arith, at_room c p (fork n l a b) f, node_some a)) ∙ left_at c p n l a b f)
        | false ↦ (λ q f.
            let le : node_count c ≤ p = grind (arith, nat_tests) in
            let at : suc p ≡ node_count c + suc (p - node_count c) = omega arith in
            ap (λ i. node_at (fork m k c d) (suc i)) at ∙ in_right m k c d (suc (p - node_count c)) ∙ left_at d (p - node_count c) n l a b f)
      ] refl e

  pub right_at : (t : Node L) (p : ℕ) (n : ℕ) (l : L) (a b : Node L) → node_at t p ≡ Some (fork n l a b) → node_at t (suc (p + node_count a)) ≡ Some b
  right_at (leaf m k) zero n l a b e = absurd (leaf_fork e)
  right_at (leaf m k) (suc p) n l a b e = absurd (none-some _ e)
  right_at (fork m k c d) zero n l a b e =
      let same : c ≡ a = cc in
      let other : d ≡ b = cc in
      let counted : node_count c ≡ node_count a = ap node_count same in
      let at : 0 + node_count a ≡ node_count c + 0 = omega (arith, counted) in
      ap (λ i. node_at (fork m k c d) (suc i)) at ∙ in_right m k c d 0 ∙ root_at d ∙ ap Some other
  right_at (fork m k c d) (suc p) n l a b e =
      elim (nat_lt p (node_count c)) as (λ v. nat_lt p (node_count c) ≡ v → cond v (node_at c p) (node_at d (p - node_count c)) ≡ Some (fork n l a b) → node_at (fork m k c d) (suc (suc p + node_count a)) ≡ Some b) [
        | true ↦ (λ q f.
            let at : suc p + node_count a ≡ suc (p + node_count a) = omega arith in
            ap (λ i. node_at (fork m k c d) (suc i)) at ∙ in_left m k c d (suc (p + node_count a)) (omega (arith, at_room c p (fork n l a b) f, node_some b)) ∙ right_at c p n l a b f)
        | false ↦ (λ q f.
            let le : node_count c ≤ p = grind (arith, nat_tests) in
            let at : suc p + node_count a ≡ node_count c + suc ((p - node_count c) + node_count a) = omega arith in
            ap (λ i. node_at (fork m k c d) (suc i)) at ∙ in_right m k c d (suc ((p - node_count c) + node_count a)) ∙ right_at d (p - node_count c) n l a b f)
      ] refl e

  pub numbered_leader : (lights : List L) (t : Node L) → IsNumbered lights t → slice_get lights (leader_number t) ≡ Some (leader t)
  numbered_leader lights (leaf n l) h = h
  numbered_leader lights (fork n l a b) h = h.0

module _ {L : Type 0} where
  pub length_numbers : (t : Node L) → length (numbers t) ≡ leaf_count t
  length_numbers (leaf n l) = refl
  length_numbers (fork n l a b) =
      omega (arith, length-append (numbers a) (numbers b), length_numbers a, length_numbers b)

  -- a tree has a leaf for each light
  pub leaf_for_each : (valid : L → Type 0) (lights : List L) (t : Node L) → IsTree valid lights t → leaf_count t ≡ length lights
  leaf_for_each valid lights t h =
      sym (length_numbers t) ∙ sym (length_permutation (numbers t) (range_with_len 0 (length lights)) h.once) ∙ length-range_with_len 0 (length lights)

module _ {L C : Type 0} where
  -- what the row of a node has of it
  pub clump_row : (one : L → C) (join : C → C → C) (t : Node L) → (row_of one join t).clump ≡ clump_of one join t
  clump_row one join (leaf n l) = refl
  clump_row one join (fork n l a b) = refl

  pub leader_row : (one : L → C) (join : C → C → C) (t : Node L) → (row_of one join t).leader ≡ leader_number t
  leader_row one join (leaf n l) = refl
  leader_row one join (fork n l a b) = refl

  pub length-rows_of : (one : L → C) (join : C → C → C) (t : Node L) → length (rows_of one join t) ≡ node_count t
  length-rows_of one join (leaf n l) = refl
  length-rows_of one join (fork n l a b) =
      omega (arith, length-append (rows_of one join a) (rows_of one join b), length-rows_of one join a, length-rows_of one join b)

  -- the row of each node stands at its number
  pub row_at : (one : L → C) (join : C → C → C) (t : Node L) (p : ℕ) (s : Node L) → node_at t p ≡ Some s → slice_get (rows_of one join t) p ≡ Some (row_of one join s)
  row_at one join (leaf n l) zero s e = ap (λ u. Some (row_of one join u)) (same_Some _ _ e)
  row_at one join (leaf n l) (suc p) s e = absurd (none-some _ e)
  row_at one join (fork n l a b) zero s e = ap (λ u. Some (row_of one join u)) (same_Some _ _ e)
  row_at one join (fork n l a b) (suc p) s e =
      elim (nat_lt p (node_count a)) as (λ v. nat_lt p (node_count a) ≡ v → cond v (node_at a p) (node_at b (p - node_count a)) ≡ Some s → slice_get (rows_of one join a ++ rows_of one join b) p ≡ Some (row_of one join s)) [
        | true ↦ (λ q f.
            let lt : p < node_count a = grind (arith, nat_tests) in
            get_left (rows_of one join a) (rows_of one join b) p (omega (arith, length-rows_of one join a)) ∙ row_at one join a p s f)
        | false ↦ (λ q f.
            let le : node_count a ≤ p = grind (arith, nat_tests) in
            let at : p ≡ length (rows_of one join a) + (p - node_count a) = omega (arith, length-rows_of one join a) in
            ap (slice_get (rows_of one join a ++ rows_of one join b)) at ∙ get_right (rows_of one join a) (rows_of one join b) (p - node_count a) ∙ row_at one join b (p - node_count a) s f)
      ] refl e

  pub count_of_kept : (valid : L → Type 0) (one : L → C) (join : C → C → C) (lights : List L) (rows : List (Row C)) (r : Option (Node L)) → MatchOption r ((rows ≡ []) × (lights ≡ [])) (λ t. IsLaid valid one join lights rows t) → (length rows ≡ count_of r) × (count_of r ≤ 131072)
  count_of_kept valid one join lights rows None h = (ap length h.0, omega arith)
  count_of_kept valid one join lights rows (Some t) h =
      (ap length h.rows_are ∙ length-rows_of one join t, let few : leaf_count t ≤ 65536 = omega (arith, leaf_for_each valid lights t h.tree, h.tree.few) in omega (arith, counts t))

  -- what a reader finds at a node's number
  pub row_found : (valid : L → Type 0) (one : L → C) (join : C → C → C) (lights : List L) (rows : List (Row C)) (r : Option (Node L)) → MatchOption r ((rows ≡ []) × (lights ≡ [])) (λ t. IsLaid valid one join lights rows t) → (p : ℕ) (row : Row C) → slice_get rows p ≡ Some row → p < count_of r → IsSomeAnd (node_of r p) (λ t. IsRowOf valid one join lights p t row)
  row_found valid one join lights rows None h p row at lt = absurd (omega arith)
  row_found valid one join lights rows (Some t) h p row at lt =
      let found : (s : Node L) × (node_at t p ≡ Some s) = at_within t p lt in
      let here : slice_get rows p ≡ Some (row_of one join found.0) = ap (λ rs. slice_get rs p) h.rows_are ∙ row_at one join t p found.0 found.1 in
      let few : leaf_count t ≤ 65536 = omega (arith, leaf_for_each valid lights t h.tree, h.tree.few) in
      let numbered : IsNumbered lights found.0 = node_every (IsNumbered lights) (λ n l a b q. (q.1, q.2)) t p found.0 found.1 h.tree.numbered in
      rw found.1 (record {
        is = same_Some _ _ (sym at ∙ here);
        room = omega (arith, at_room t p found.0 found.1, counts t);
        numbered = numbered;
        led = node_every IsLed (λ n l a b q. (q.1, q.2)) t p found.0 found.1 h.tree.led;
        valid_lights = h.tree.valid_lights;
      })

  -- the same of the tree that a value shows
  pub count_viewed : (valid : L → Type 0) (one : L → C) (join : C → C → C) (lights : List L) (rows : List (Row C)) (v : Kept L) → (let k : Kept L = record { lights = lights; root = read_rows lights rows } in k ≡ v) → IsLaidIf valid one join lights rows → (length rows ≡ count_of v.root) × (count_of v.root ≤ 131072)
  count_viewed valid one join lights rows v e h =
      subst (λ (u : Kept L). (length rows ≡ count_of u.root) × (count_of u.root ≤ 131072)) e (count_of_kept valid one join lights rows (read_rows lights rows) h)

  pub row_viewed : (valid : L → Type 0) (one : L → C) (join : C → C → C) (lights : List L) (rows : List (Row C)) (v : Kept L) → (let k : Kept L = record { lights = lights; root = read_rows lights rows } in k ≡ v) → IsLaidIf valid one join lights rows → (p : ℕ) (row : Row C) → row ≡ get_or rows p row → p < count_of v.root → IsSomeAnd (node_of v.root p) (λ t. IsRowOf valid one join v.lights p t row)
  row_viewed valid one join lights rows v e h p row at lt =
      let counted : (length rows ≡ count_of v.root) × (count_of v.root ≤ 131072) = count_viewed valid one join lights rows v e h in
      let inside : p < length rows = omega (arith, counted.0) in
      subst (λ (u : Kept L). p < count_of u.root → IsSomeAnd (node_of u.root p) (λ t. IsRowOf valid one join u.lights p t row)) e
      (λ q. row_found valid one join lights rows (read_rows lights rows) h p row (slice_get-get_or rows p row inside ∙ ap Some (sym at)) q) lt

  -- what a row says of the children
  pub kids_none : (valid : L → Type 0) (one : L → C) (join : C → C → C) (lights : List L) (p : ℕ) (row : Row C) (o : Option (Node L)) → IsSomeAnd o (λ t. IsRowOf valid one join lights p t row) → row.left ≡ 0 → IsSomeAnd o (λ t. None ≡ kids_of p t)
  kids_none valid one join lights p row None h z = h
  kids_none valid one join lights p row (Some (leaf n l)) h z = refl
  kids_none valid one join lights p row (Some (fork n l a b)) h z = absurd (omega (arith, leaves_positive a, ap (λ (r : Row C). r.left) h.is))

  pub kids_some : (valid : L → Type 0) (one : L → C) (join : C → C → C) (lights : List L) (p : ℕ) (row : Row C) (o : Option (Node L)) → IsSomeAnd o (λ t. IsRowOf valid one join lights p t row) → (row.left ≡ 0 → ⊥) → IsSomeAnd o (λ t. Some (p + 1, p + 2 * row.left) ≡ kids_of p t)
  kids_some valid one join lights p row None h z = h
  kids_some valid one join lights p row (Some (leaf n l)) h z = absurd (z (ap (λ (r : Row C). r.left) h.is))
  kids_some valid one join lights p row (Some (fork n l a b)) h z = ap (λ (r : Row C). Some (p + 1, p + 2 * r.left)) h.is

  pub kids_room : (valid : L → Type 0) (one : L → C) (join : C → C → C) (lights : List L) (p : ℕ) (row : Row C) (o : Option (Node L)) → IsSomeAnd o (λ t. IsRowOf valid one join lights p t row) → p + 2 * row.left ≤ 131072
  kids_room valid one join lights p row None h = absurd h
  kids_room valid one join lights p row (Some (leaf n l)) h = omega (arith, ap (λ (r : Row C). r.left) h.is, h.room)
  kids_room valid one join lights p row (Some (fork n l a b)) h = omega (arith, ap (λ (r : Row C). r.left) h.is, h.room, counts a, node_some b)
