-- The rows of a leaf, and of two trees under a new root.
use Rattle.std.proofs.Common.{◌≡◌, ℕ, zero, suc, ◌+◌, ◌-◌, ◌*◌, ◌/◌, ◌<◌, ◌≤◌, List, [], ◌∷◌, ◌++◌, length, take, drop, map, slice_get, slice_set, get_or, Some, refl, ap, sym, subst, ◌∙◌, arith, ◌⊎◌, inl, inr, true, false, Bool, cond, if◌then◌else◌, length-append, All}
use Rattle.std.proofs.lemmas.List.{append_assoc, append-nil, take-append-drop, map-append, length-take-le, length-drop}
use Rattle.std.proofs.lemmas.List.Elements.{All-take, All-drop, All-head}
use Rattle.std.proofs.lemmas.List.Sorted.{IsPermutation-refl, IsPermutation-map, IsPermutation-append, IsPermutation-sym, IsPermutation-trans, length_permutation, All-permutation}
use Rattle.std.specs.Prelude.{IsPermutation}
use Rattle.lc_terms.specs.Kind.{Meaning}
use Rattle.lc_tree.specs.declared.row.Row.{Row}
use Rattle.lc_tree.specs.declared.numbered.Numbered.{Numbered}
use Rattle.lc_tree.specs.Node.{Node, first, leaf, fork, leaf_count, leader, leader_number, numbers, clump_of}
use Rattle.lc_tree.specs.Rows.{rows_of, row_of, read_rows, read-rows_of, IsTree, IsLaidIf, IsNumbered}
use Rattle.lc_tree.specs.Build.{takes_left, power_weight, weight_of, forked, halved, in_order, comes_before, numbered, tree_of}
use Rattle.lc_tree.specs.Extents.{longest_axis}
use Rattle.lc_tree.specs.Grown.{Grown, StandsIn}
use Rattle.lc_tree.proofs.NodeLaws.{clump_row, counts, leader_row, length-rows_of, numbered_leader}
use Rattle.lc_tree.proofs.Numbering.{length_numbered, numbers_numbered}

set_after : {A : Type 0} (xs ys : List A) (x y : A) → slice_set ((xs ++ (x ∷ [])) ++ ys) (length xs) y ≡ xs ++ (y ∷ ys)
set_after [] ys x y = refl
set_after (z ∷ xs) ys x y = ap (λ us. z ∷ us) (set_after xs ys x y)

abbrev pub leaf_row : {C : Type 0} → C → ℕ → Row C
leaf_row c n = record { clump = c; leader = n; left = 0; count = 1 }

-- what holds of the items holds of the parts of the sorted items
pub of_front : {A : Type 0} (P : A → Type 0) (n : ℕ) (xs ys front : List A) → IsPermutation xs ys → front ≡ take n ys → All P xs → All P front
of_front P n xs ys front moved e h = subst (All P) (sym e) (All-take P n ys (All-permutation P xs ys moved h))

pub of_back : {A : Type 0} (P : A → Type 0) (n : ℕ) (xs ys back : List A) → IsPermutation xs ys → back ≡ drop n ys → All P xs → All P back
of_back P n xs ys back moved e h = subst (All P) (sym e) (All-drop P n ys (All-permutation P xs ys moved h))

module _ {L C : Type 0} where
  halved_leaf : (m : Meaning L C) (word : ℕ → ℕ) (p : ℕ) (e : Numbered L) (fuel : ℕ) → length (e ∷ []) ≤ fuel → halved m word fuel p (e ∷ []) ≡ Some (leaf e.number e.light)
  halved_leaf m word p e zero h = absurd (omega arith)
  halved_leaf m word p e (suc fuel) h = refl

  -- the rows of a leaf
  leaf_grown : (m : Meaning L C) (word : ℕ → ℕ) (lights : List L) (e : Numbered L) (old : List (Row C)) → slice_get lights e.number ≡ Some e.light → Grown m word lights (e ∷ []) old (old ++ leaf_row (m.one e.light) e.number ∷ []) (leaf_row (m.one e.light) e.number)
  leaf_grown m word lights e old at = record {
    tree = leaf e.number e.light;
    rows = refl;
    root = refl;
    halved = λ fuel h. halved_leaf m word (length old) e fuel h;
    leaves = refl;
    numbers_are = IsPermutation-refl (e.number ∷ []);
    numbered = at;
    led = tt;
  }

  pub grown_leaf : (m : Meaning L C) (word : ℕ → ℕ) (lights : List L) (es : List (Numbered L)) (old new : List (Row C)) (d : Numbered L) (c : C) → length es ≡ 1 → All (StandsIn lights) es → d ≡ get_or es 0 d → c ≡ m.one d.light → new ≡ old ++ leaf_row c d.number ∷ [] → Grown m word lights es old new (leaf_row c d.number)
  grown_leaf m word lights [] old new d c one h is ec en = absurd (omega (arith, one))
  grown_leaf m word lights (e ∷ (f ∷ es)) old new d c one h is ec en = absurd (omega (arith, one))
  grown_leaf m word lights (e ∷ []) old new d c one h is ec en =
      subst (λ k. c ≡ m.one k.light → new ≡ old ++ leaf_row c k.number ∷ [] → Grown m word lights (e ∷ []) old new (leaf_row c k.number)) (sym is)
      (λ ek er.
      let rows : new ≡ old ++ leaf_row (m.one e.light) e.number ∷ [] = er ∙ ap (λ k. old ++ leaf_row k e.number ∷ []) ek in
      rw (rows, ek) (leaf_grown m word lights e old (All-head (StandsIn lights) e [] h))) ec en

  halved_more : (m : Meaning L C) (word : ℕ → ℕ) (p half : ℕ) (es ys : List (Numbered L)) (ta tb : Node L) → 1 < length es → half ≡ length es / 2 → ys ≡ in_order (comes_before (longest_axis es)) es → length ys ≡ length es →
      ((fuel : ℕ) → length (take half ys) ≤ fuel → halved m word fuel (p + 1) (take half ys) ≡ Some ta) →
      ((fuel : ℕ) → length (drop half ys) ≤ fuel → halved m word fuel (p + 2 * half) (drop half ys) ≡ Some tb) →
      (fuel : ℕ) → length es ≤ fuel → halved m word fuel p es ≡ forked m (word p) (Some ta) (Some tb)
  halved_more m word p half [] ys ta tb more eh ey el ha hb fuel h = absurd (omega (arith, more))
  halved_more m word p half (e ∷ []) ys ta tb more eh ey el ha hb fuel h = absurd (omega (arith, more))
  halved_more m word p half (e ∷ (f ∷ es)) ys ta tb more eh ey el ha hb zero h = absurd (omega (arith, h))
  halved_more m word p half (e ∷ (f ∷ es)) ys ta tb more eh ey el ha hb (suc fuel) h =
      let short : half ≤ length ys = omega (arith, eh, el) in
      let left : halved m word fuel (p + 1) (take half ys) ≡ Some ta = ha fuel (omega (arith, length-take-le half ys short, eh, more, h)) in
      let right : halved m word fuel (p + 2 * half) (drop half ys) ≡ Some tb = hb fuel (omega (arith, length-drop half ys, eh, more, h, el)) in
      let go : (k : ℕ) (zs : List (Numbered L)) → k ≡ half → zs ≡ ys → forked m (word p) (halved m word fuel (p + 1) (take k zs)) (halved m word fuel (p + 2 * k) (drop k zs)) ≡ forked m (word p) (Some ta) (Some tb) = λ k zs ek ez. rw (ek, ez, left, right) refl in
      go (length (e ∷ (f ∷ es)) / 2) (in_order (comes_before (longest_axis (e ∷ (f ∷ es)))) (e ∷ (f ∷ es))) (sym eh) (sym ey)

  -- the rows of two trees under a new root
  pub grown_fork : (m : Meaning L C) (word : ℕ → ℕ) (lights : List L) (es ys : List (Numbered L)) (half : ℕ) (old ra rb : List (Row C)) (start rowa rowb : Row C) (at : ℕ) (c : C) (k : ℕ) → 1 < length es → half ≡ length es / 2 → ys ≡ in_order (comes_before (longest_axis es)) es → IsPermutation es ys → Grown m word lights (take half ys) (old ++ start ∷ []) ra rowa → Grown m word lights (drop half ys) ra rb rowb → c ≡ m.join rowa.clump rowb.clump → k ≡ (if takes_left (word (length old)) (power_weight (m.total rowa.clump)) (power_weight (m.total rowb.clump)) then rowa.leader else rowb.leader) → at ≡ length old → (let row : Row C = record { clump = c; leader = k; left = half; count = length es } in Grown m word lights es old (slice_set rb at row) row)
  grown_fork m word lights es ys half old ra rb start rowa rowb at c k more eh ey moved a b ec el ea =
      let row : Row C = record { clump = c; leader = k; left = half; count = length es } in
      let ta : Node L = a.tree in
      let tb : Node L = b.tree in
      let same_length : length ys ≡ length es = length_permutation es ys moved in
      let short : half ≤ length ys = omega (arith, eh, same_length) in
      let leaves_a : leaf_count ta ≡ half = a.leaves ∙ length-take-le half ys short in
      let leaves_b : leaf_count tb ≡ length ys - half = b.leaves ∙ length-drop half ys in
      let ca : rowa.clump ≡ clump_of m.one m.join ta = ap (λ (r : Row C). r.clump) a.root ∙ clump_row m.one m.join ta in
      let cb : rowb.clump ≡ clump_of m.one m.join tb = ap (λ (r : Row C). r.clump) b.root ∙ clump_row m.one m.join tb in
      let la : rowa.leader ≡ leader_number ta = ap (λ (r : Row C). r.leader) a.root ∙ leader_row m.one m.join ta in
      let lb : rowb.leader ≡ leader_number tb = ap (λ (r : Row C). r.leader) b.root ∙ leader_row m.one m.join tb in
      let test : Bool = takes_left (word (length old)) (weight_of m ta) (weight_of m tb) in
      let n : ℕ = cond test (leader_number ta) (leader_number tb) in
      let l : L = cond test (leader ta) (leader tb) in
      let t : Node L = fork n l ta tb in
      let leads : k ≡ n = el ∙ rw (ca, cb, la, lb) refl in
      let rows_b : rb ≡ (old ++ start ∷ []) ++ (rows_of m.one m.join ta ++ rows_of m.one m.join tb) = b.rows ∙ ap (λ us. us ++ rows_of m.one m.join tb) a.rows ∙ append_assoc (old ++ start ∷ []) (rows_of m.one m.join ta) (rows_of m.one m.join tb) in
      let mk : C → ℕ → ℕ → ℕ → Row C = λ c k i n. record { clump = c; leader = k; left = i; count = n } in
      let counted : length es ≡ leaf_count ta + leaf_count tb = omega (arith, leaves_a, leaves_b, short, same_length) in
      let clumps : c ≡ m.join (clump_of m.one m.join ta) (clump_of m.one m.join tb) = ec ∙ rw (ca, cb) refl in
      let row_is : row ≡ row_of m.one m.join t =
      ap (λ c. mk c k half (length es)) clumps
      ∙ ap (λ k. mk (m.join (clump_of m.one m.join ta) (clump_of m.one m.join tb)) k half (length es)) leads
      ∙ ap (λ i. mk (m.join (clump_of m.one m.join ta) (clump_of m.one m.join tb)) n i (length es)) (sym leaves_a)
      ∙ ap (mk (m.join (clump_of m.one m.join ta) (clump_of m.one m.join tb)) n (leaf_count ta)) counted in
      let set : slice_set rb at row ≡ old ++ (row ∷ (rows_of m.one m.join ta ++ rows_of m.one m.join tb)) = ap (λ i. slice_set rb i row) ea ∙ ap (λ us. slice_set us (length old) row) rows_b ∙ set_after old (rows_of m.one m.join ta ++ rows_of m.one m.join tb) start row in
      let pa : length (old ++ start ∷ []) ≡ length old + 1 = length-append old (start ∷ []) in
      let pb : length ra ≡ length old + 2 * half = ap length a.rows ∙ omega (arith, length-append (old ++ start ∷ []) (rows_of m.one m.join ta), pa, length-rows_of m.one m.join ta, counts ta, leaves_a) in
      record {
        tree = t;
        rows = set ∙ ap (λ r. old ++ (r ∷ (rows_of m.one m.join ta ++ rows_of m.one m.join tb))) row_is;
        root = row_is;
        halved = λ fuel h. halved_more m word (length old) half es ys ta tb more eh ey same_length
            (λ fuel g. ap (λ p. halved m word fuel p (take half ys)) (sym pa) ∙ a.halved fuel g)
            (λ fuel g. ap (λ p. halved m word fuel p (drop half ys)) (sym pb) ∙ b.halved fuel g) fuel h;
        leaves = omega (arith, leaves_a, leaves_b, short, same_length);
        numbers_are =
            IsPermutation-trans (numbers ta ++ numbers tb) (map (λ e. e.number) ys) (map (λ e. e.number) es)
            (subst (λ ns. IsPermutation (numbers ta ++ numbers tb) ns) (sym (map-append (λ (e : Numbered L). e.number) (take half ys) (drop half ys)) ∙ ap (map (λ (e : Numbered L). e.number)) (take-append-drop half ys))
            (IsPermutation-append (numbers ta) (map (λ e. e.number) (take half ys)) (numbers tb) (map (λ e. e.number) (drop half ys)) a.numbers_are b.numbers_are))
            (IsPermutation-map (λ (e : Numbered L). e.number) ys es (IsPermutation-sym es ys moved));
        numbered = (elim test as (λ v. slice_get lights (cond v (leader_number ta) (leader_number tb)) ≡ Some (cond v (leader ta) (leader tb))) [ true ↦ numbered_leader lights ta a.numbered | false ↦ numbered_leader lights tb b.numbered ], a.numbered, b.numbered);
        led = (elim test as (λ v. ((cond v (leader_number ta) (leader_number tb) ≡ leader_number ta) × (cond v (leader ta) (leader tb) ≡ leader ta)) ⊎ ((cond v (leader_number ta) (leader_number tb) ≡ leader_number tb) × (cond v (leader ta) (leader tb) ≡ leader tb))) [ true ↦ inl (refl, refl) | false ↦ inr (refl, refl) ], a.led, b.led);
      }

  -- the same from what was pushed and from the two parts
  pub grown_parts : (m : Meaning L C) (word : ℕ → ℕ) (lights : List L) (es ys front back : List (Numbered L)) (half : ℕ) (old pushed ra rb : List (Row C)) (start rowa rowb : Row C) (at : ℕ) (c : C) (k w : ℕ) → 1 < length es → half ≡ length es / 2 → ys ≡ in_order (comes_before (longest_axis es)) es → IsPermutation es ys → pushed ≡ old ++ start ∷ [] → front ≡ take half ys → back ≡ drop half ys → Grown m word lights front pushed ra rowa → Grown m word lights back ra rb rowb → c ≡ m.join rowa.clump rowb.clump → k ≡ (if takes_left w (power_weight (m.total rowa.clump)) (power_weight (m.total rowb.clump)) then rowa.leader else rowb.leader) → w ≡ word (length old) → at ≡ length old → (let row : Row C = record { clump = c; leader = k; left = half; count = length es } in Grown m word lights es old (slice_set rb at row) row)
  grown_parts m word lights es ys front back half old pushed ra rb start rowa rowb at c k w more eh ey moved ep ef eb a b ec el ew ea =
      grown_fork m word lights es ys half old ra rb start rowa rowb at c k more eh ey moved
      (subst (λ fs. Grown m word lights fs (old ++ start ∷ []) ra rowa) ef (subst (λ us. Grown m word lights front us ra rowa) ep a))
      (subst (λ bs. Grown m word lights bs ra rb rowb) eb b)
      ec (el ∙ ap (λ v. if takes_left v (power_weight (m.total rowa.clump)) (power_weight (m.total rowb.clump)) then rowa.leader else rowb.leader) ew) ea

  grown_tree : (m : Meaning L C) (word : ℕ → ℕ) (lights : List L) (new : List (Row C)) (row : Row C) → (g : Grown m word lights (numbered m lights) [] new row) → length lights ≤ 65536 → All m.valid_light lights → (new ≡ rows_of m.one m.join g.tree) × (read_rows lights new ≡ Some g.tree) × IsTree m.valid_light lights g.tree
  grown_tree m word lights new row g few valid =
      let same : new ≡ rows_of m.one m.join g.tree = g.rows in
      let at : IsNumbered lights g.tree = g.numbered in (
        same,
        ap (read_rows lights) (same ∙ sym (append-nil (rows_of m.one m.join g.tree))) ∙ ap first (read-rows_of m.one m.join lights g.tree [] at),
        record {
          numbered = at;
          once = subst (IsPermutation (numbers g.tree)) (numbers_numbered m lights) g.numbers_are;
          led = g.led;
          valid_lights = valid;
          few = few;
        },
      )

  laid_of_rows : (m : Meaning L C) (word : ℕ → ℕ) (lights : List L) (new : List (Row C)) (row : Row C) → Grown m word lights (numbered m lights) [] new row → length lights ≤ 65536 → All m.valid_light lights → IsLaidIf m.valid_light m.one m.join lights new × (read_rows lights new ≡ tree_of m word lights)
  laid_of_rows m word lights new row g few valid =
      let t : (new ≡ rows_of m.one m.join g.tree) × (read_rows lights new ≡ Some g.tree) × IsTree m.valid_light lights g.tree = grown_tree m word lights new row g few valid in (
        rw t.1 (record { rows_are = t.0; tree = t.2 }),
        t.1 ∙ sym (g.halved (length lights) (omega (arith, length_numbered m lights))),
      )

  -- the rows that grew from nothing are those of the tree
  pub laid_of_grown : (m : Meaning L C) (word : ℕ → ℕ) (lights : List L) (es : List (Numbered L)) (old new : List (Row C)) (row : Row C) → es ≡ numbered m lights → old ≡ [] → length lights ≤ 65536 → All m.valid_light lights → Grown m word lights es old new row → IsLaidIf m.valid_light m.one m.join lights new × (read_rows lights new ≡ tree_of m word lights)
  laid_of_grown m word lights es old new row ee eo few valid g =
      laid_of_rows m word lights new row (subst (λ us. Grown m word lights (numbered m lights) us new row) eo (subst (λ fs. Grown m word lights fs old new row) ee g)) few valid

  -- no rows for no lights
  pub laid_of_none : (m : Meaning L C) (lights : List L) → length lights ≡ 0 → IsLaidIf m.valid_light m.one m.join lights (let rs : List (Row C) = [] in rs)
  laid_of_none m [] h = (refl, refl)
  laid_of_none m (l ∷ ls) h = absurd (omega (arith, h))

  pub tree_of_none : (m : Meaning L C) (word : ℕ → ℕ) (lights : List L) → length lights ≡ 0 → (let rs : List (Row C) = [] in read_rows lights rs ≡ tree_of m word lights)
  tree_of_none m word [] h = refl
  tree_of_none m word (l ∷ ls) h = absurd (omega (arith, h))
