-- The leaves of a tree, from the left, in its rows.
use Rattle.std.proofs.Common.{◌≡◌, ℕ, zero, suc, ◌+◌, ◌-◌, ◌<◌, ◌≤◌, ◌==◌, nat_lt, List, [], ◌∷◌, ◌++◌, Option, None, Some, length, get_or, map, take, drop, refl, ap, sym, subst, ◌∙◌, arith, true, false, cond, length-append, MatchOption, IsSomeAnd}
use Rattle.std.specs.List.{filter}
use Rattle.std.proofs.lemmas.List.{append_assoc, append-nil, get_or_default, map-append}
use Rattle.std.proofs.Math.Seq.{take-append_seam}
use Rattle.std.proofs.lemmas.List.Elements.{filter-append}
use Rattle.std.proofs.lemmas.Bool.Decides.{nat_tests}
use Rattle.std.proofs.lemmas.Option.{none-some, same_Some}
use Rattle.lc_tree.specs.declared.row.Row.{Row}
use Rattle.lc_tree.specs.Node.{Node, Kept, leaf, fork, leaf_count, node_count, node_at, node_of, count_of, numbers}
use Rattle.lc_tree.specs.Rows.{leaf_numbers, read_rows, rows_of, row_of, IsLaid, IsLaidIf, IsListed, IsRowOf, leaves_positive}
use Rattle.lc_tree.proofs.NodeLaws.{at_within, length_numbers, length-rows_of}

module _ {C : Type 0} where
  pub leaf_numbers-append : (xs ys : List (Row C)) → leaf_numbers (xs ++ ys) ≡ leaf_numbers xs ++ leaf_numbers ys
  leaf_numbers-append xs ys =
      ap (map (λ (r : Row C). r.leader)) (filter-append (λ (r : Row C). r.left == 0) xs ys)
      ∙ map-append (λ (r : Row C). r.leader) (filter (λ (r : Row C). r.left == 0) xs) (filter (λ (r : Row C). r.left == 0) ys)

module _ {L C : Type 0} (one : L → C) (join : C → C → C) where
  -- the leaves' rows have the numbers of the leaves
  pub numbers_listed : (t : Node L) → leaf_numbers (rows_of one join t) ≡ numbers t
  numbers_listed (leaf n l) = refl
  numbers_listed (fork n l a b) =
      let some : 0 < leaf_count a = leaves_positive a in
      let inner : (leaf_count a == 0) ≡ false = grind (arith, nat_tests) in
      rw inner (leaf_numbers-append (rows_of one join a) (rows_of one join b) ∙ ap (λ us. us ++ leaf_numbers (rows_of one join b)) (numbers_listed a) ∙ ap (λ us. numbers a ++ us) (numbers_listed b))

  -- the rows of a node stand together, from its number on
  record Standing (t : Node L) (p : ℕ) (s : Node L) : Type 0 where
    before : List (Row C)
    after : List (Row C)
    rows : rows_of one join t ≡ before ++ (rows_of one join s ++ after)
    place : length before ≡ p

  standing_root : (t s : Node L) → t ≡ s → Standing t 0 s
  standing_root t s e = record { before = []; after = []; rows = ap (rows_of one join) e ∙ sym (append-nil (rows_of one join s)); place = refl }

  standing : (t : Node L) (p : ℕ) (s : Node L) → node_at t p ≡ Some s → Standing t p s
  standing (leaf n l) zero s e = standing_root (leaf n l) s (same_Some _ _ e)
  standing (leaf n l) (suc p) s e = absurd (none-some _ e)
  standing (fork n l a b) zero s e = standing_root (fork n l a b) s (same_Some _ _ e)
  standing (fork n l a b) (suc p) s e =
      let row = row_of one join (fork n l a b) in
      elim (nat_lt p (node_count a)) as (λ v. nat_lt p (node_count a) ≡ v → cond v (node_at a p) (node_at b (p - node_count a)) ≡ Some s → Standing (fork n l a b) (suc p) s) [
        | true ↦ (λ q f.
            let h = standing a p s f in
            record {
              before = row ∷ h.before;
              after = h.after ++ rows_of one join b;
              rows = ap (λ us. row ∷ us)
                  (ap (λ us. us ++ rows_of one join b) h.rows ∙ append_assoc h.before (rows_of one join s ++ h.after) (rows_of one join b)
                  ∙ ap (λ us. h.before ++ us) (append_assoc (rows_of one join s) h.after (rows_of one join b)));
              place = ap suc h.place;
            })
        | false ↦ (λ q f.
            let le : node_count a ≤ p = grind (arith, nat_tests) in
            let h = standing b (p - node_count a) s f in
            record {
              before = row ∷ (rows_of one join a ++ h.before);
              after = h.after;
              rows = ap (λ us. row ∷ us) (ap (λ us. rows_of one join a ++ us) h.rows ∙ sym (append_assoc (rows_of one join a) h.before (rows_of one join s ++ h.after)));
              place = omega (arith, length-append (rows_of one join a) h.before, length-rows_of one join a, h.place);
            })
      ] refl e

-- the middle of three parts of a list
middle : {A : Type 0} (xs ys zs : List A) (i n : ℕ) → i ≡ length xs → n ≡ length ys → take n (drop i (xs ++ (ys ++ zs))) ≡ ys
middle [] ys zs i n ei en = ap (λ k. take n (drop k (ys ++ zs))) ei ∙ ap (λ k. take k (ys ++ zs)) en ∙ take-append_seam ys zs
middle (x ∷ xs) ys zs zero n ei en = absurd (omega arith)
middle (x ∷ xs) ys zs (suc i) n ei en = middle xs ys zs i n (omega arith) en

-- the part of a list of leaves that is a node's
pub record IsPart (order : List ℕ) (first : ℕ) (count : ℕ) (ns : List ℕ) : Type 0 where
  pub within : first + count ≤ length order
  pub is : take count (drop first order) ≡ ns

module _ {L C : Type 0} (one : L → C) (join : C → C → C) where
  part_at : (t : Node L) (p : ℕ) (s : Node L) (rows : List (Row C)) (order : List ℕ) (first : ℕ) → node_at t p ≡ Some s → rows ≡ rows_of one join t → order ≡ leaf_numbers rows → first ≡ length (leaf_numbers (take p rows)) → IsPart order first (leaf_count s) (numbers s)
  part_at t p s rows order first here laid listed before =
      let h = standing one join t p s here in
      let xs = leaf_numbers h.before in
      let ys = numbers s in
      let zs = leaf_numbers h.after in
      let apart : order ≡ xs ++ (ys ++ zs) =
      listed ∙ ap leaf_numbers (laid ∙ h.rows) ∙ leaf_numbers-append h.before (rows_of one join s ++ h.after)
      ∙ ap (λ us. xs ++ us) (leaf_numbers-append (rows_of one join s) h.after ∙ ap (λ us. us ++ zs) (numbers_listed one join s)) in
      let start : take p rows ≡ h.before =
      ap (take p) (laid ∙ h.rows) ∙ ap (λ k. take k (h.before ++ (rows_of one join s ++ h.after))) (sym h.place) ∙ take-append_seam h.before (rows_of one join s ++ h.after) in
      let at : first ≡ length xs = before ∙ ap (λ (us : List (Row C)). length (leaf_numbers us)) start in
      let many : leaf_count s ≡ length ys = sym (length_numbers s) in
      record {
        within = omega (arith, ap length apart, length-append xs (ys ++ zs), length-append ys zs, at, many);
        is = ap (λ us. take (leaf_count s) (drop first us)) apart ∙ middle xs ys zs first (leaf_count s) at many;
      }

  count_row : (t : Node L) → (row_of one join t).count ≡ leaf_count t
  count_row (leaf n l) = refl
  count_row (fork n l a b) = refl

  part_found : (valid : L → Type 0) (lights : List L) (rows : List (Row C)) (order firsts : List ℕ) (r : Option (Node L)) → MatchOption r ((rows ≡ []) × (lights ≡ [])) (λ t. IsLaid valid one join lights rows t) → IsListed rows order firsts → (p first : ℕ) (row : Row C) → first ≡ get_or firsts p first → p < count_of r → IsSomeAnd (node_of r p) (λ t. IsRowOf valid one join lights p t row) → IsSomeAnd (node_of r p) (λ t. IsPart order first row.count (numbers t))
  part_found valid lights rows order firsts None h listed p first row at lt is = absurd (omega arith)
  part_found valid lights rows order firsts (Some t) h listed p first row at lt is =
      let found : (s : Node L) × (node_at t p ≡ Some s) = at_within t p lt in
      let here : IsRowOf valid one join lights p found.0 row = rw found.1 at is in
      let counted : row.count ≡ leaf_count found.0 = ap (λ (r : Row C). r.count) here.is ∙ count_row found.0 in
      let among : p < length rows = omega (arith, ap length h.rows_are, length-rows_of one join t) in
      rw found.1 (subst (λ n. IsPart order first n (numbers found.0)) (sym counted) (part_at t p found.0 rows order first found.1 h.rows_are listed.order_is (at ∙ get_or_default firsts p first 0 (omega (arith, listed.each)) ∙ listed.firsts_are p among)))

  -- the members of a node are a part of the leaves
  pub part_viewed : (valid : L → Type 0) (lights : List L) (rows : List (Row C)) (order firsts : List ℕ) (v : Kept L) → (let k : Kept L = record { lights = lights; root = read_rows lights rows } in k ≡ v) → IsLaidIf valid one join lights rows → IsListed rows order firsts → (p first : ℕ) (row : Row C) → first ≡ get_or firsts p first → p < count_of v.root → IsSomeAnd (node_of v.root p) (λ t. IsRowOf valid one join v.lights p t row) → IsSomeAnd (node_of v.root p) (λ t. IsPart order first row.count (numbers t))
  part_viewed valid lights rows order firsts v e h listed p first row at lt is =
      subst (λ (u : Kept L). p < count_of u.root → IsSomeAnd (node_of u.root p) (λ t. IsRowOf valid one join u.lights p t row) → IsSomeAnd (node_of u.root p) (λ t. IsPart order first row.count (numbers t))) e
      (λ q i. part_found valid lights rows order firsts (read_rows lights rows) h listed p first row at q i) lt is

module _ {L : Type 0} where
  pub part_within : (o : Option (Node L)) (order : List ℕ) (first count : ℕ) → IsSomeAnd o (λ t. IsPart order first count (numbers t)) → first + count ≤ length order
  part_within None order first count h = absurd h
  part_within (Some t) order first count h = h.within

  pub part_is : (o : Option (Node L)) (order : List ℕ) (first count : ℕ) (ns : List ℕ) → ns ≡ take count (drop first order) → IsSomeAnd o (λ t. IsPart order first count (numbers t)) → IsSomeAnd o (λ t. ns ≡ numbers t)
  part_is None order first count ns e h = h
  part_is (Some t) order first count ns e h = e ∙ h.is
