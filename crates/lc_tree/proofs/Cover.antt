-- The clump of a node covers the lights below it.
use Rattle.std.proofs.Common.{◌≡◌, ℕ, zero, suc, ◌+◌, ◌<◌, ◌≤◌, List, [], ◌∷◌, ◌++◌, length, Option, None, Some, slice_get, refl, ap, ap₂, sym, subst, ◌∙◌, arith, inl, inr, All, IsSomeAnd, MatchOption, length-append, ⊎_elim}
use Rattle.std.specs.Prelude.{Contains}
use Rattle.std.proofs.lemmas.List.Elements.{All-nil, All-cons, All-append, All-weaker, All-get_or, Contains-append_left, Contains-append_right}
use Rattle.std.proofs.lemmas.List.Sums.{sum_by-append, sum_by-cons}
use Rattle.std.proofs.lemmas.Option.{none-some}
use Rattle.lc_num.specs.declared.channels.Power.{Power}
use Rattle.lc_terms.specs.Kind.{Meaning, Laws}
use Rattle.lc_num.specs.Channels.{power_plus}
use Rattle.lc_tree.specs.declared.row.Row.{Row}
use Rattle.lc_tree.specs.Build.{power_weight, weight_of}
use Rattle.lc_tree.specs.Cover.{power_sum, IsClumpOf, IsLeaderOf}
use Rattle.lc_tree.specs.Node.{Node, Kept, leaf, fork, leaf_count, leader, leader_number, members, clump_of}
use Rattle.lc_tree.specs.Rows.{row_of, IsNumbered, IsLed, IsRowOf, IsTree, IsTreeIf, IsLaid, IsLaidIf, read_rows}
use Rattle.lc_tree.proofs.NodeLaws.{clump_row, counts, leader_row, numbered_leader}

pub powers : (r g b r' g' b' : ℕ) → r ≡ r' → g ≡ g' → b ≡ b' → ◌≡◌ {A = Power} (record { r = r; g = g; b = b }) (record { r = r'; g = g'; b = b' })
powers r g b r' g' b' e f h = cc

-- what is in the list at a number is valid
pub valid_at : {L : Type 0} (valid : L → Type 0) (lights : List L) (n : ℕ) (l : L) → All valid lights → slice_get lights n ≡ Some l → valid l
valid_at valid [] n l h e = absurd (none-some _ e)
valid_at valid (x ∷ xs) zero l h e =
    let same : x ≡ l = cc in
    subst valid same (All-get_or valid (x ∷ xs) 0 x (omega arith) h)
valid_at valid (x ∷ xs) (suc n) l h e = valid_at valid xs n l (λ k d below. h (suc k) d (omega arith)) e

module _ {L : Type 0} where
  length_members : (t : Node L) → length (members t) ≡ leaf_count t
  length_members (leaf n l) = refl
  length_members (fork n l a b) = omega (arith, length-append (members a) (members b), length_members a, length_members b)

  pub leads_member : (t : Node L) → IsLed t → Contains (members t) (leader t)
  leads_member (leaf n l) h = (0, omega arith, refl)
  leads_member (fork n l a b) h =
      ⊎_elim
      (λ (e : (n ≡ leader_number a) × (l ≡ leader a)). subst (Contains (members a ++ members b)) (sym e.1) (Contains-append_left (members a) (members b) (leader a) (leads_member a h.1)))
      (λ (e : (n ≡ leader_number b) × (l ≡ leader b)). subst (Contains (members a ++ members b)) (sym e.1) (Contains-append_right (members a) (members b) (leader b) (leads_member b h.2)))
      h.0

  some_below : (lights : List L) (n : ℕ) (l : L) → slice_get lights n ≡ Some l → n < length lights
  some_below [] n l e = absurd (none-some _ e)
  some_below (x ∷ xs) zero l e = omega arith
  some_below (x ∷ xs) (suc n) l e = omega (arith, some_below xs n l e)

  all_of_tree : (valid : L → Type 0) (lights : List L) (r : Option (Node L)) → MatchOption r (lights ≡ []) (λ t. IsTree valid lights t) → All valid lights
  all_of_tree valid lights None h = subst (All valid) (sym h) (All-nil valid)
  all_of_tree valid lights (Some t) h = h.valid_lights

  pub light_valid : (valid : L → Type 0) (v : Kept L) (n : ℕ) (l : L) → IsTreeIf valid v → slice_get v.lights n ≡ Some l → valid l
  light_valid valid v n l h e = valid_at valid v.lights n l (all_of_tree valid v.lights v.root h) e

module _ {L C : Type 0} where
  pub record Holds (m : Meaning L C) (t : Node L) (clump : C) : Type 0 where
    pub valid : m.valid_clump clump
    pub count : m.count clump ≡ leaf_count t
    pub covers : All (λ l. m.valid_light l × m.covers clump l) (members t)
    pub total : m.total clump ≡ power_sum m (members t)

  sum_of_both : (m : Meaning L C) (ls ks : List L) → power_plus (power_sum m ls) (power_sum m ks) ≡ power_sum m (ls ++ ks)
  sum_of_both m ls ks =
      powers _ _ _ _ _ _ (sym (sum_by-append (λ l. (m.power l).r) ls ks)) (sym (sum_by-append (λ l. (m.power l).g) ls ks)) (sym (sum_by-append (λ l. (m.power l).b) ls ks))

  pub sum_of_one : (m : Meaning L C) (l : L) → m.power l ≡ power_sum m (l ∷ [])
  sum_of_one m l = powers _ _ _ _ _ _ (omega (arith, sum_by-cons (λ l. (m.power l).r) l [])) (omega (arith, sum_by-cons (λ l. (m.power l).g) l [])) (omega (arith, sum_by-cons (λ l. (m.power l).b) l []))

  pub holds : (m : Meaning L C) → Laws m → (lights : List L) → All m.valid_light lights → (t : Node L) → IsNumbered lights t → leaf_count t ≤ 65536 → Holds m t (clump_of m.one m.join t)
  holds m laws lights valid (leaf n l) at few =
      let v : m.valid_light l = valid_at m.valid_light lights n l valid at in
      record {
        valid = laws.one_valid l v;
        count = laws.one_count l v;
        covers = All-cons (λ k. m.valid_light k × m.covers (m.one l) k) l [] (v, laws.one_covers l v) (All-nil (λ k. m.valid_light k × m.covers (m.one l) k));
        total = laws.one_total l v ∙ sum_of_one m l;
      }
  holds m laws lights valid (fork n l a b) at few =
      let ca : C = clump_of m.one m.join a in
      let cb : C = clump_of m.one m.join b in
      let ha : Holds m a ca = holds m laws lights valid a at.1 (omega (arith, few)) in
      let hb : Holds m b cb = holds m laws lights valid b at.2 (omega (arith, few)) in
      record {
        valid = laws.join_valid ca cb ha.valid hb.valid (omega (arith, ha.count, hb.count, few));
        count = laws.join_count ca cb ha.valid hb.valid ∙ ap₂ (λ i j. i + j) ha.count hb.count;
        covers = All-append (λ k. m.valid_light k × m.covers (m.join ca cb) k) (members a) (members b)
            (All-weaker (λ k. m.valid_light k × m.covers ca k) (λ k. m.valid_light k × m.covers (m.join ca cb) k) (λ k h. (h.0, laws.join_covers ca cb k ha.valid hb.valid h.0 (inl h.1))) (members a) ha.covers)
            (All-weaker (λ k. m.valid_light k × m.covers cb k) (λ k. m.valid_light k × m.covers (m.join ca cb) k) (λ k h. (h.0, laws.join_covers ca cb k ha.valid hb.valid h.0 (inr h.1))) (members b) hb.covers);
        total = laws.join_total ca cb ha.valid hb.valid ∙ ap₂ power_plus ha.total hb.total ∙ sum_of_both m (members a) (members b);
      }

  row_holds : (m : Meaning L C) → Laws m → (lights : List L) (p : ℕ) (t : Node L) (r : Row C) → IsRowOf m.valid_light m.one m.join lights p t r → (r.clump ≡ clump_of m.one m.join t) × Holds m t r.clump
  row_holds m laws lights p t r h =
      let is : r.clump ≡ clump_of m.one m.join t = ap (λ (r : Row C). r.clump) h.is ∙ clump_row m.one m.join t in
      (is, subst (Holds m t) (sym is) (holds m laws lights h.valid_lights t h.numbered (omega (arith, h.room, counts t))))

  -- what a row says of its node
  pub row_valid : (m : Meaning L C) → Laws m → (lights : List L) (p : ℕ) (r : Row C) (o : Option (Node L)) → IsSomeAnd o (λ t. IsRowOf m.valid_light m.one m.join lights p t r) → m.valid_clump r.clump
  row_valid m laws lights p r None h = absurd h
  row_valid m laws lights p r (Some t) h = (row_holds m laws lights p t r h).1.valid

  pub row_clump : (m : Meaning L C) → Laws m → (lights : List L) (p : ℕ) (r : Row C) (o : Option (Node L)) → IsSomeAnd o (λ t. IsRowOf m.valid_light m.one m.join lights p t r) → IsSomeAnd o (λ t. IsClumpOf m t r.clump)
  row_clump m laws lights p r None h = h
  row_clump m laws lights p r (Some t) h =
      let both : (r.clump ≡ clump_of m.one m.join t) × Holds m t r.clump = row_holds m laws lights p t r h in
      record {
        is = both.0;
        lights = All-weaker (λ l. m.valid_light l × m.covers r.clump l) m.valid_light (λ l k. k.0) (members t) both.1.covers;
        count = both.1.count ∙ sym (length_members t);
        covers = All-weaker (λ l. m.valid_light l × m.covers r.clump l) (m.covers r.clump) (λ l k. k.1) (members t) both.1.covers;
        total = both.1.total;
      }

  pub row_weight : (m : Meaning L C) (lights : List L) (p w : ℕ) (r : Row C) (o : Option (Node L)) → IsSomeAnd o (λ t. IsRowOf m.valid_light m.one m.join lights p t r) → w ≡ power_weight (m.total r.clump) → IsSomeAnd o (λ t. w ≡ weight_of m t)
  row_weight m lights p w r None h e = h
  row_weight m lights p w r (Some t) h e = e ∙ ap (λ c. power_weight (m.total c)) (ap (λ (r : Row C). r.clump) h.is ∙ clump_row m.one m.join t)

  pub row_leader : (m : Meaning L C) (lights : List L) (p : ℕ) (r : Row C) (o : Option (Node L)) → IsSomeAnd o (λ t. IsRowOf m.valid_light m.one m.join lights p t r) → IsSomeAnd o (λ t. IsLeaderOf lights t r.leader)
  row_leader m lights p r None h = h
  row_leader m lights p r (Some t) h =
      let is : r.leader ≡ leader_number t = ap (λ (r : Row C). r.leader) h.is ∙ leader_row m.one m.join t in
      record {
        is = is;
        light = ap (slice_get lights) is ∙ numbered_leader lights t h.numbered;
        member = leads_member t h.led;
      }

  pub row_below : (m : Meaning L C) (lights : List L) (p : ℕ) (r : Row C) (o : Option (Node L)) → IsSomeAnd o (λ t. IsRowOf m.valid_light m.one m.join lights p t r) → r.leader < length lights
  row_below m lights p r None h = absurd h
  row_below m lights p r (Some t) h =
      let is : r.leader ≡ leader_number t = ap (λ (r : Row C). r.leader) h.is ∙ leader_row m.one m.join t in
      some_below lights r.leader (leader t) (ap (slice_get lights) is ∙ numbered_leader lights t h.numbered)

  pub row_led : (m : Meaning L C) (lights : List L) (p : ℕ) (r : Row C) (o : Option (Node L)) → IsSomeAnd o (λ t. IsRowOf m.valid_light m.one m.join lights p t r) → IsSomeAnd o IsLed
  row_led m lights p r None h = h
  row_led m lights p r (Some t) h = h.led

  tree_of_laid : (valid : L → Type 0) (one : L → C) (join : C → C → C) (lights : List L) (rows : List (Row C)) (r : Option (Node L)) → MatchOption r ((rows ≡ []) × (lights ≡ [])) (λ t. IsLaid valid one join lights rows t) → MatchOption r (lights ≡ []) (λ t. IsTree valid lights t)
  tree_of_laid valid one join lights rows None h = h.1
  tree_of_laid valid one join lights rows (Some t) h = h.tree

  -- what a value shows is a tree
  pub tree_viewed : (valid : L → Type 0) (one : L → C) (join : C → C → C) (lights : List L) (rows : List (Row C)) (v : Kept L) → (let k : Kept L = record { lights = lights; root = read_rows lights rows } in k ≡ v) → IsLaidIf valid one join lights rows → IsTreeIf valid v
  tree_viewed valid one join lights rows v e h =
      subst (IsTreeIf valid) e (tree_of_laid valid one join lights rows (read_rows lights rows) h)
