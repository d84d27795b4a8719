-- What is found of the nodes of a tree, and which child takes over a factor.
use Rattle.std.proofs.Common.{◌≡◌, ℕ, suc, ◌+◌, ◌*◌, ◌<◌, inl, inr, List, Option, None, Some, slice_get, refl, ap, sym, subst, ◌∙◌, arith, add-one, IsSomeAnd}
use Rattle.std.proofs.lemmas.Option.{same_Some}
use Rattle.lc_num.specs.declared.channels.Rgb.{Rgb}
use Rattle.lc_num.specs.declared.rules.Rule.{Rule}
use Rattle.lc_geom.specs.declared.triangle.Tri.{Tri}
use Rattle.lc_num.specs.Channels.{by_power}
use Rattle.lc_terms.specs.Kind.{Meaning, factor_of}
use Rattle.lc_terms.specs.declared.spot.Spot.{Spot}
use Rattle.lc_tree.specs.Cover.{IsLeaderOf, power_sum}
use Rattle.lc_tree.specs.Node.{Node, Kept, leaf, fork, leaf_count, node_count, node_at, node_of, count_of, kids_of, leader, members}
use Rattle.lc_tree.specs.Rows.{IsLed}
use Rattle.lc_tree.proofs.NodeLaws.{at_room, counts, left_at, node_some, right_at, root_at}
use Rattle.lc_rated.specs.declared.lighting.Found.{Found}
use Rattle.lc_rated.specs.declared.lighting.Split.{Split}
use Rattle.lc_rated.specs.Finding.{IsFound, IsRoot, IsSplit}
use Rattle.lc_rated.specs.LitTrees.{light_of}
use Rattle.lc_rated.specs.LitTrees as lits
use Rattle.lc_cut.specs.Lit.{light_at, light_by, lit, lit_root, IsFactor}
use Rattle.lc_cut.proofs.LitLaws.{leaves_lit}

pair_same : {a b c d : ℕ} → ◌≡◌ {A = Option (ℕ × ℕ)} (Some (a, b)) (Some (c, d)) → (a ≡ c) × (b ≡ d)
pair_same {a} {b} {c} {d} h =
    let e : ◌≡◌ {A = ℕ × ℕ} (a, b) (c, d) = same_Some _ _ h in
    (ap (λ (p : ℕ × ℕ). p.0) e, ap (λ (p : ℕ × ℕ). p.1) e)

module _ {L : Type 0} where
  pub within_count : (root : Option (Node L)) (p : ℕ) (t : Node L) → node_of root p ≡ Some t → p < count_of root
  within_count None p t e = absurd cc
  within_count (Some r) p t e = omega (arith, at_room r p t e, node_some t)

  -- an inner node and its children, with their numbers
  pub record IsParent (root : Option (Node L)) (p left right : ℕ) : Type 0 where
    pub number : ℕ
    pub light : L
    pub a : Node L
    pub b : Node L
    pub found : node_of root p ≡ Some (fork number light a b)
    pub left_found : node_of root left ≡ Some a
    pub right_found : node_of root right ≡ Some b
    pub left_is : left ≡ p + 1
    pub right_is : right ≡ p + 2 * leaf_count a

  left_of : (root : Option (Node L)) (p n : ℕ) (l : L) (a b : Node L) → node_of root p ≡ Some (fork n l a b) → node_of root (p + 1) ≡ Some a
  left_of None p n l a b e = absurd cc
  left_of (Some t) p n l a b e = rw add-one (left_at t p n l a b e)

  right_of : (root : Option (Node L)) (p n : ℕ) (l : L) (a b : Node L) → node_of root p ≡ Some (fork n l a b) → node_of root (p + 2 * leaf_count a) ≡ Some b
  right_of None p n l a b e = absurd cc
  right_of (Some t) p n l a b e =
      let at : p + 2 * leaf_count a ≡ suc (p + node_count a) = omega (arith, counts a) in
      ap (node_at t) at ∙ right_at t p n l a b e

  parent_at : (root : Option (Node L)) (p left right : ℕ) (o : Option (Node L)) → node_of root p ≡ o → IsSomeAnd o (λ t. ◌≡◌ {A = Option (ℕ × ℕ)} (Some (left, right)) (kids_of p t)) → IsParent root p left right
  parent_at root p left right None e h = absurd h
  parent_at root p left right (Some (leaf n l)) e h = absurd cc
  parent_at root p left right (Some (fork n l a b)) e h =
      let s : (left ≡ p + 1) × (right ≡ p + 2 * leaf_count a) = pair_same h in
      record {
        number = n;
        light = l;
        a = a;
        b = b;
        found = e;
        left_found = ap (node_of root) s.0 ∙ left_of root p n l a b e;
        right_found = ap (node_of root) s.1 ∙ right_of root p n l a b e;
        left_is = s.0;
        right_is = s.1;
      }

  pub parent_of : (root : Option (Node L)) (p left right : ℕ) → IsSomeAnd (node_of root p) (λ t. ◌≡◌ {A = Option (ℕ × ℕ)} (Some (left, right)) (kids_of p t)) → IsParent root p left right
  parent_of root p left right h = parent_at root p left right (node_of root p) refl h

  pub left_within : (root : Option (Node L)) (p left right : ℕ) → IsSomeAnd (node_of root p) (λ t. ◌≡◌ {A = Option (ℕ × ℕ)} (Some (left, right)) (kids_of p t)) → left < count_of root
  left_within root p left right h = let i = parent_of root p left right h in within_count root left i.a i.left_found

  pub right_within : (root : Option (Node L)) (p left right : ℕ) → IsSomeAnd (node_of root p) (λ t. ◌≡◌ {A = Option (ℕ × ℕ)} (Some (left, right)) (kids_of p t)) → right < count_of root
  right_within root p left right h = let i = parent_of root p left right h in within_count root right i.b i.right_found

module _ {L C : Type 0} (m : Meaning L C) (ts : List Tri) (spot : Spot) where
  factor_is : (root : Option (Node L)) (p : ℕ) (t : Node L) (f : Rgb) → node_of root p ≡ Some t → IsFactor m ts spot root p f → f ≡ factor_of m ts spot (leader t)
  factor_is root p t f e h = rw e at h.is

module _ {L C : Type 0} (m : Meaning L C) (ts : List Tri) (spot : Spot) (r : Rule) where
  light_lit : (t : Node L) → light_of (lit m ts spot r t) ≡ light_at m ts spot r t
  light_lit (leaf n l) = refl
  light_lit (fork n l a b) = refl

  -- what is found of a node
  found_is : (root : Option (Node L)) (p : ℕ) (t : Node L) (f : Rgb) (x : Found Rgb) → node_of root p ≡ Some t → IsFactor m ts spot root p f → x.node ≡ p → IsSomeAnd (node_of root p) (λ s. x.light ≡ light_by m spot r f s) → x.kept ≡ f → IsFound (IsFactor m ts spot root) p (lit m ts spot r t) x
  found_is root p t f x e h node light kept =
      let given : x.light ≡ light_by m spot r f t = rw e at light in
      record {
        node = node;
        light = given ∙ ap (λ g. light_by m spot r g t) (factor_is m ts spot root p t f e h) ∙ sym (light_lit t);
        kept = rw kept h;
      }

  pub root_none : (root : Option (Node L)) → 0 ≡ count_of root → IsRoot (IsFactor m ts spot root) (lit_root m ts spot r root) None
  root_none None h = refl
  root_none (Some t) h = absurd (omega (arith, h, node_some t))

  pub root_within : (root : Option (Node L)) (n : ℕ) → n ≡ count_of root → (n ≡ 0 → ⊥) → 0 < count_of root
  root_within root n h some = omega arith

  root_at_some : (root whole : Option (Node L)) (f : Rgb) (x : Found Rgb) → whole ≡ root → 0 < count_of root → IsFactor m ts spot whole 0 f → x.node ≡ 0 → IsSomeAnd (node_of whole 0) (λ t. x.light ≡ light_by m spot r f t) → x.kept ≡ f → IsRoot (IsFactor m ts spot whole) (lit_root m ts spot r root) (Some x)
  root_at_some None whole f x e some h node light kept = absurd (omega arith)
  root_at_some (Some t) whole f x e some h node light kept = found_is whole 0 t f x (ap (λ o. node_of o 0) e ∙ root_at t) h node light kept

  pub root_some : (root : Option (Node L)) (f : Rgb) (x : Found Rgb) → 0 < count_of root → IsFactor m ts spot root 0 f → x.node ≡ 0 → IsSomeAnd (node_of root 0) (λ t. x.light ≡ light_by m spot r f t) → x.kept ≡ f → IsRoot (IsFactor m ts spot root) (lit_root m ts spot r root) (Some x)
  root_some root f x some h node light kept = root_at_some root root f x refl some h node light kept

  pub split_some : (root : Option (Node L)) (p left right : ℕ) → IsSomeAnd (node_of root p) (λ t. ◌≡◌ {A = Option (ℕ × ℕ)} (Some (left, right)) (kids_of p t)) → (f fl fr : Rgb) → IsFactor m ts spot root p f → IsFactor m ts spot root left fl → IsFactor m ts spot root right fr → (s : Split Rgb) → IsSomeAnd (node_of root p) (λ t. s.est ≡ by_power f (power_sum m (members t))) → s.left.node ≡ left → IsSomeAnd (node_of root left) (λ t. s.left.light ≡ light_by m spot r fl t) → s.left.kept ≡ fl → s.right.node ≡ right → IsSomeAnd (node_of root right) (λ t. s.right.light ≡ light_by m spot r fr t) → s.right.kept ≡ fr → IsSomeAnd (node_of root p) (λ t. IsSplit (IsFactor m ts spot root) p (lit m ts spot r t) (Some s))
  split_some root p left right h f fl fr hf hl hr s est ln ll lk rn rl rk =
      let i : IsParent root p left right = parent_of root p left right h in
      let t : Node L = fork i.number i.light i.a i.b in
      let given : s.est ≡ by_power f (power_sum m (members t)) = rw i.found at est in
      let x : IsFound (IsFactor m ts spot root) left (lit m ts spot r i.a) s.left = found_is root left i.a fl s.left i.left_found hl ln ll lk in
      let y : IsFound (IsFactor m ts spot root) right (lit m ts spot r i.b) s.right = found_is root right i.b fr s.right i.right_found hr rn rl rk in
      let at : right ≡ p + 2 * lits.leaf_count (lit m ts spot r i.a) = omega (arith, i.right_is, leaves_lit m ts spot r i.a) in
      rw i.found (
        given ∙ ap (λ g. by_power g (power_sum m (members t))) (factor_is m ts spot root p t f i.found hf),
        subst (λ n. IsFound (IsFactor m ts spot root) n (lit m ts spot r i.a) s.left) i.left_is x,
        subst (λ n. IsFound (IsFactor m ts spot root) n (lit m ts spot r i.b) s.right) at y,
      )

module _ {L C : Type 0} (m : Meaning L C) (ts : List Tri) (spot : Spot) where
  -- the child whose representative is that of the node
  pub left_keeps : (v : Kept L) (p left right : ℕ) → IsSomeAnd (node_of v.root p) (λ t. ◌≡◌ {A = Option (ℕ × ℕ)} (Some (left, right)) (kids_of p t)) → (f : Rgb) → IsFactor m ts spot v.root p f → (x y : ℕ) → IsSomeAnd (node_of v.root left) (λ t. IsLeaderOf v.lights t x) → IsSomeAnd (node_of v.root p) (λ t. IsLeaderOf v.lights t y) → x ≡ y → IsFactor m ts spot v.root left f
  left_keeps v p left right h f hf x y hx hy same =
      let i : IsParent v.root p left right = parent_of v.root p left right h in
      let t : Node L = fork i.number i.light i.a i.b in
      let la : IsLeaderOf v.lights i.a x = rw i.left_found at hx in
      let lt : IsLeaderOf v.lights t y = rw i.found at hy in
      let e : leader t ≡ leader i.a = same_Some _ _ (sym lt.light ∙ ap (slice_get v.lights) (sym same) ∙ la.light) in
      let given : f ≡ factor_of m ts spot (leader i.a) = factor_is m ts spot v.root p t f i.found hf ∙ ap (factor_of m ts spot) e in
      record { is = rw i.left_found given; within = hf.within }

  pub right_keeps : (v : Kept L) (p left right : ℕ) → IsSomeAnd (node_of v.root p) (λ t. ◌≡◌ {A = Option (ℕ × ℕ)} (Some (left, right)) (kids_of p t)) → (f : Rgb) → IsFactor m ts spot v.root p f → (x y : ℕ) → IsSomeAnd (node_of v.root left) (λ t. IsLeaderOf v.lights t x) → IsSomeAnd (node_of v.root p) (λ t. IsLeaderOf v.lights t y) → IsSomeAnd (node_of v.root p) IsLed → (x ≡ y → ⊥) → IsFactor m ts spot v.root right f
  right_keeps v p left right h f hf x y hx hy hl differ =
      let i : IsParent v.root p left right = parent_of v.root p left right h in
      let t : Node L = fork i.number i.light i.a i.b in
      let la : IsLeaderOf v.lights i.a x = rw i.left_found at hx in
      let lt : IsLeaderOf v.lights t y = rw i.found at hy in
      let led : IsLed t = rw i.found at hl in
      let e : leader t ≡ leader i.b = elim led.0 [ inl l ↦ absurd (differ (la.is ∙ sym l.0 ∙ sym lt.is)) | inr r ↦ r.1 ] in
      let given : f ≡ factor_of m ts spot (leader i.b) = factor_is m ts spot v.root p t f i.found hf ∙ ap (factor_of m ts spot) e in
      record { is = rw i.right_found given; within = hf.within }
