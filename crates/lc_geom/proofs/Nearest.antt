-- The order of hits, and the first of a list of them.
use Rattle.std.proofs.Common.{◌≡◌, ℕ, zero, suc, ◌+◌, ◌⊎◌, inl, inr, Bool, true, false, List, [], ◌∷◌, refl, sym, ap, ◌∙◌, arith, Some, None, subst}
use Rattle.std.specs.Prelude.{Option, IsSomeAnd, slice_get, if◌then◌else◌}
use Rattle.std.specs.List.{cons_option}
use Rattle.std.proofs.lemmas.Bool.Decides.{nat_tests}
use Rattle.lc_num.specs.declared.vectors.Vec3.{Vec3}
use Rattle.lc_geom.specs.declared.triangle.Tri.{Tri}
use Rattle.lc_geom.specs.declared.hit.Hit.{Hit}
use Rattle.lc_geom.specs.Hits.{depth, hit_at, hits_from, is_before, earlier, first, nearest, IsHitOf, IsLeastOf, HitsNone}

-- ---- the order
pub before_both : (a b c : Hit) → is_before a b ≡ true → is_before b c ≡ true → is_before a c ≡ true
before_both a b c f g = grind (arith, nat_tests)

pub after_both : (a b c : Hit) → is_before a b ≡ false → is_before b c ≡ false → is_before a c ≡ false
after_both a b c f g = grind (arith, nat_tests)

pub before_itself : (a : Hit) → is_before a a ≡ true
before_itself a = grind (arith, nat_tests)

pub before_turned : (a b : Hit) → is_before a b ≡ false → is_before b a ≡ true
before_turned a b f = grind (arith, nat_tests)

same_depth : (a b : Hit) → is_before a b ≡ true → is_before b a ≡ true → a.depth ≡ b.depth
same_depth a b f g = grind (arith, nat_tests)

same_number : (a b : Hit) → is_before a b ≡ true → is_before b a ≡ true → a.number ≡ b.number
same_number a b f g = grind (arith, nat_tests)

same_parts : (m n x y : ℕ) → m ≡ x → n ≡ y → ◌≡◌ {A = Hit} (record { depth = m; number = n }) (record { depth = x; number = y })
same_parts m n x y f g = cc

same_hit : (a b : Hit) → a.depth ≡ b.depth → a.number ≡ b.number → a ≡ b
same_hit a b f g = same_parts a.depth a.number b.depth b.number f g

pub before_unique : (a b : Hit) → is_before a b ≡ true → is_before b a ≡ true → a ≡ b
before_unique a b f g = same_hit a b (same_depth a b f g) (same_number a b f g)

-- ---- the first of a list
abbrev pub IsIn : Hit → List Hit → Type 0
IsIn h [] = ⊥
IsIn h (x ∷ xs) = (x ≡ h) ⊎ IsIn h xs

pub record Least (hs : List Hit) (h : Hit) : Type 0 where
  pub member : IsIn h hs
  pub least : (x : Hit) → IsIn x hs → is_before h x ≡ true

first_none : (hs : List Hit) → first hs ≡ None → (x : Hit) → IsIn x hs → ⊥
unfolding first
first_none [] e x h = h
first_none (a ∷ later) e x h = cc

none_first : (hs : List Hit) → ((x : Hit) → IsIn x hs → ⊥) → first hs ≡ None
unfolding first
none_first [] h = refl
none_first (a ∷ later) h = absurd (h a (inl refl))

least_of_one : (a : Hit) (later : List Hit) → first later ≡ None → Least (a ∷ later) a
least_of_one a later e = record { member = inl refl; least = before } where
  before : (x : Hit) → IsIn x (a ∷ later) → is_before a x ≡ true
  before x (inl same) = subst (λ (y : Hit). is_before a y ≡ true) same (before_itself a)
  before x (inr h) = absurd (first_none later e x h)

least_of_earlier : (a b : Hit) (later : List Hit) → is_before a b ≡ true → Least later b → Least (a ∷ later) a
least_of_earlier a b later order k = record { member = inl refl; least = before } where
  before : (x : Hit) → IsIn x (a ∷ later) → is_before a x ≡ true
  before x (inl same) = subst (λ (y : Hit). is_before a y ≡ true) same (before_itself a)
  before x (inr h) = before_both a b x order (k.least x h)

least_of_later : (a b : Hit) (later : List Hit) → is_before a b ≡ false → Least later b → Least (a ∷ later) b
least_of_later a b later order k = record { member = inr k.member; least = before } where
  before : (x : Hit) → IsIn x (a ∷ later) → is_before b x ≡ true
  before x (inl same) = subst (λ (y : Hit). is_before b y ≡ true) same (before_turned a b order)
  before x (inr h) = k.least x h

pub first_least : (hs : List Hit) (h : Hit) → first hs ≡ Some h → Least hs h
unfolding first
first_least [] h e = absurd cc
first_least (a ∷ later) h e = of_rest (first later) refl e (λ b q. first_least later b q) where
  of_two : (b : Hit) (t : Bool) → is_before a b ≡ t → Least later b → Least (a ∷ later) (if t then a else b)
  of_two b true order k = least_of_earlier a b later order k
  of_two b false order k = least_of_later a b later order k

  of_rest : (o : Option Hit) → first later ≡ o → Some (earlier a o) ≡ Some h → ((b : Hit) → first later ≡ Some b → Least later b) → Least (a ∷ later) h
  of_rest None q f rest = let same : a ≡ h = cc in subst (Least (a ∷ later)) same (least_of_one a later q)
  of_rest (Some b) q f rest = let same : earlier a (Some b) ≡ h = cc in subst (Least (a ∷ later)) same (of_two b (is_before a b) refl (rest b q))

pub least_first : (hs : List Hit) (h : Hit) → Least hs h → first hs ≡ Some h
least_first hs h k = of_first (first hs) refl where
  of_first : (o : Option Hit) → first hs ≡ o → first hs ≡ Some h
  of_first None e = absurd (first_none hs e h k.member)
  of_first (Some g) e =
      let m = first_least hs g e in
      e ∙ ap (λ x. Some x) (before_unique g h (m.least h k.member) (k.least g m.member))

-- ---- the hits of a list of triangles
module _ (e d : Vec3) where
  -- the triangle at i of a list whose first has the number n
  record HitFrom (n : ℕ) (ts : List Tri) (h : Hit) : Type 0 where
    i : ℕ
    t : Tri
    number : h.number ≡ n + i
    at : slice_get ts i ≡ Some t
    deep : depth e d t ≡ Some h.depth

  later_in : (o : Option Hit) (hs : List Hit) (h : Hit) → IsIn h hs → IsIn h (cons_option o hs)
  later_in None hs h k = k
  later_in (Some x) hs h k = inr k

  head_in : (n k : ℕ) (o : Option ℕ) (hs : List Hit) (h : Hit) → o ≡ Some k → h.depth ≡ k → h.number ≡ n → IsIn h (cons_option (hit_at n o) hs)
  head_in n k None hs h e f g = absurd cc
  head_in n k (Some j) hs h e f g = let same : j ≡ k = cc in inl (same_hit (record { depth = j; number = n }) h (same ∙ sym f) (sym g))

  listed : (n : ℕ) (ts : List Tri) (h : Hit) (i : ℕ) (t : Tri) → h.number ≡ n + i → slice_get ts i ≡ Some t → depth e d t ≡ Some h.depth → IsIn h (hits_from n e d ts)
  listed n [] h i t number at deep = absurd cc
  listed n (u ∷ ts) h zero t number at deep =
      let same : u ≡ t = cc in
      head_in n h.depth (depth e d u) (hits_from (n + 1) e d ts) h (ap (depth e d) same ∙ deep) refl (omega arith)
  listed n (u ∷ ts) h (suc i) t number at deep =
      later_in (hit_at n (depth e d u)) (hits_from (n + 1) e d ts) h (listed (n + 1) ts h i t (omega arith) at deep)

  unlisted : (n : ℕ) (ts : List Tri) (h : Hit) → IsIn h (hits_from n e d ts) → HitFrom n ts h
  unlisted n [] h k = absurd k
  unlisted n (u ∷ ts) h k = of_depth (depth e d u) refl k (λ m. unlisted (n + 1) ts h m) where
    after : HitFrom (n + 1) ts h → HitFrom n (u ∷ ts) h
    after r = record { i = suc r.i; t = r.t; number = omega (arith, r.number); at = r.at; deep = r.deep }

    of_depth : (o : Option ℕ) → depth e d u ≡ o → IsIn h (cons_option (hit_at n o) (hits_from (n + 1) e d ts)) → (IsIn h (hits_from (n + 1) e d ts) → HitFrom (n + 1) ts h) → HitFrom n (u ∷ ts) h
    of_depth None q m rest = after (rest m)
    of_depth (Some j) q (inl same) rest =
        let number : h.number ≡ n = sym (ap (λ (x : Hit). x.number) same) in
        let deep : j ≡ h.depth = ap (λ (x : Hit). x.depth) same in
        record { i = 0; t = u; number = omega arith; at = refl; deep = q ∙ ap (λ x. Some x) deep }
    of_depth (Some j) q (inr m) rest = after (rest m)

  to_hit : (ts : List Tri) (h : Hit) → IsIn h (hits_from 0 e d ts) → IsHitOf e d ts h
  to_hit ts h k =
      let r = unlisted 0 ts h k in
      let same : h.number ≡ r.i = omega (arith, r.number) in
      rw (same, r.at) r.deep

  from_hit : (ts : List Tri) (h : Hit) → IsHitOf e d ts h → IsIn h (hits_from 0 e d ts)
  from_hit ts h k = of_get (slice_get ts h.number) refl k where
    of_get : (o : Option Tri) → slice_get ts h.number ≡ o → IsSomeAnd o (λ t. depth e d t ≡ Some h.depth) → IsIn h (hits_from 0 e d ts)
    of_get None q m = absurd m
    of_get (Some t) q m = listed 0 ts h h.number t (omega arith) q m

  pub nearest_none : (ts : List Tri) → nearest e d ts ≡ None → HitsNone e d ts
  unfolding nearest
  nearest_none ts none number t at = of_depth (depth e d t) refl where
    of_depth : (o : Option ℕ) → depth e d t ≡ o → depth e d t ≡ None
    of_depth None q = q
    of_depth (Some j) q = absurd (first_none (hits_from 0 e d ts) none (record { depth = j; number = number }) (listed 0 ts (record { depth = j; number = number }) number t (omega arith) at q))

  pub none_nearest : (ts : List Tri) → HitsNone e d ts → nearest e d ts ≡ None
  unfolding nearest
  none_nearest ts none =
      none_first (hits_from 0 e d ts) (λ x h. let r = unlisted 0 ts x h in let q = none r.i r.t r.at in let p = r.deep in absurd (cc))

  pub nearest_is_hit : (ts : List Tri) (hit : Hit) → nearest e d ts ≡ Some hit → IsHitOf e d ts hit
  unfolding nearest
  nearest_is_hit ts hit is = to_hit ts hit (first_least (hits_from 0 e d ts) hit is).member

  pub nearest_is_least : (ts : List Tri) (hit : Hit) → nearest e d ts ≡ Some hit → IsLeastOf e d ts hit
  unfolding nearest
  nearest_is_least ts hit is other h = (first_least (hits_from 0 e d ts) hit is).least other (from_hit ts other h)

  pub least_is_nearest : (ts : List Tri) (hit : Hit) → IsHitOf e d ts hit → IsLeastOf e d ts hit → nearest e d ts ≡ Some hit
  unfolding nearest
  least_is_nearest ts hit h least =
      least_first (hits_from 0 e d ts) hit (record { member = from_hit ts hit h; least = λ x k. least x (to_hit ts x k) })
