-- Tests of a list of triangles, one after the other.
use Rattle.std.proofs.Common.{◌≡◌, ℕ, ◌+◌, ◌<◌, ◌≤◌, Bool, true, false, List, ◌∷◌, length, get_or, drop, refl, sym, ap, ◌∙◌, arith}
use Rattle.std.specs.List.{list_any, cons_option}
use Rattle.std.specs.Prelude.{Option, Some, None, IfSome, nat_le, if◌then◌else◌}
use Rattle.std.proofs.lemmas.List.{drop_more, drop_all}
use Rattle.std.proofs.lemmas.Bool.Decides.{nat_tests}
use Rattle.lc_num.specs.declared.vectors.Vec3.{Vec3}
use Rattle.lc_geom.specs.declared.triangle.Tri.{Tri}
use Rattle.lc_geom.specs.Crossing.{crosses}
use Rattle.lc_geom.specs.declared.hit.Hit.{Hit}
use Rattle.lc_geom.specs.Hits.{blocked, depth, hit_at, hits_from, is_before, earlier, first, nearest}
use Rattle.lc_geom.proofs.Nearest.{before_both, after_both}
use Rattle.lc_hier.specs.Sooner.{nearer, sooner}

any_first : {A : Type 0} (test : A → Bool) (x : A) (xs : List A) → test x ≡ true → list_any test (x ∷ xs) ≡ true
any_first test x xs h = rw h refl

any_later : {A : Type 0} (test : A → Bool) (x : A) (xs : List A) → test x ≡ false → list_any test (x ∷ xs) ≡ list_any test xs
any_later test x xs h = rw h refl

-- the triangle at i blocks, or it does not and the later ones decide
pub blocked_here : (p q : Vec3) (ts : List Tri) (i : ℕ) (d : Tri) → i < length ts → crosses p q (get_or ts i d) ≡ true → blocked p q (drop i ts) ≡ true
unfolding blocked
blocked_here p q ts i d at h = ap (list_any (crosses p q)) (drop_more ts i d at) ∙ any_first (crosses p q) (get_or ts i d) (drop (i + 1) ts) h

pub blocked_later : (p q : Vec3) (ts : List Tri) (i : ℕ) (d : Tri) → i < length ts → crosses p q (get_or ts i d) ≡ false → blocked p q (drop i ts) ≡ blocked p q (drop (i + 1) ts)
unfolding blocked
blocked_later p q ts i d at h = ap (list_any (crosses p q)) (drop_more ts i d at) ∙ any_later (crosses p q) (get_or ts i d) (drop (i + 1) ts) h

pub blocked_none : (p q : Vec3) (ts : List Tri) (i : ℕ) → length ts ≤ i → blocked p q (drop i ts) ≡ false
unfolding blocked
blocked_none p q ts i past = ap (list_any (crosses p q)) (drop_all i ts past)

-- ---- the first hit

-- the first of a hit so far and those to come
abbrev pub merged : Option Hit → Option Hit → Option Hit
merged None later = later
merged (Some best) later = Some (earlier best later)

-- a hit on a later triangle comes first only where it is nearer
before_later : (a b : Hit) → a.number < b.number → is_before a b ≡ nat_le a.depth b.depth
before_later a b less = grind (arith, nat_tests)

earlier_of_two : (a b : Hit) → a.number < b.number → earlier a (Some b) ≡ nearer (Some a) b
earlier_of_two a b less = ap (λ t. if t then a else b) (before_later a b less)

of_two : (a b : Hit) (t : Bool) → is_before a b ≡ t → earlier a (Some b) ≡ (if t then a else b)
of_two a b t e = ap (λ t. if t then a else b) e

-- the first of three hits, whichever two are compared first
three : (a b c : Hit) (ab bc ac : Bool) → is_before a b ≡ ab → is_before b c ≡ bc → is_before a c ≡ ac → earlier a (Some (if bc then b else c)) ≡ earlier (if ab then a else b) (Some c)
three a b c true true true f g h = of_two a b true f ∙ sym (of_two a c true h)
three a b c true true false f g h = absurd (let e = before_both a b c f g in cc)
three a b c true false ac f g h = refl
three a b c false true ac f g h = of_two a b false f ∙ sym (of_two b c true g)
three a b c false false true f g h = absurd (let e = after_both a b c f g in cc)
three a b c false false false f g h = of_two a c false h ∙ sym (of_two b c false g)

merged_three : (a b c : Hit) → a.number < b.number → earlier a (Some (earlier b (Some c))) ≡ earlier (nearer (Some a) b) (Some c)
merged_three a b c less =
    three a b c (is_before a b) (is_before b c) (is_before a c) refl refl refl
    ∙ ap (λ t. earlier (if t then a else b) (Some c)) (before_later a b less)

merged_step : (best : Option Hit) (h : Hit) (later : Option Hit) → IfSome best (λ b. b.number < h.number) → merged best (Some (earlier h later)) ≡ merged (Some (nearer best h)) later
merged_step None h later less = refl
merged_step (Some b) h None less = ap (λ x. Some x) (earlier_of_two b h less)
merged_step (Some b) h (Some c) less = ap (λ x. Some x) (merged_three b h c less)

-- the hits from the triangle at i on
hits_miss : (e d : Vec3) (ts : List Tri) (i : ℕ) (z : Tri) → i < length ts → depth e d (get_or ts i z) ≡ None → hits_from i e d (drop i ts) ≡ hits_from (i + 1) e d (drop (i + 1) ts)
hits_miss e d ts i z at h = ap (hits_from i e d) (drop_more ts i z at) ∙ ap (λ o. cons_option (hit_at i o) (hits_from (i + 1) e d (drop (i + 1) ts))) h

hits_hit : (e d : Vec3) (ts : List Tri) (i n : ℕ) (z : Tri) → i < length ts → depth e d (get_or ts i z) ≡ Some n → hits_from i e d (drop i ts) ≡ record { depth = n; number = i } ∷ hits_from (i + 1) e d (drop (i + 1) ts)
hits_hit e d ts i n z at h = ap (hits_from i e d) (drop_more ts i z at) ∙ ap (λ o. cons_option (hit_at i o) (hits_from (i + 1) e d (drop (i + 1) ts))) h

-- what is known after the triangles before i: the first hit on them, and that no later triangle comes before them
pub record Progress (e d : Vec3) (ts : List Tri) (i : ℕ) (best : Option Hit) : Type 0 where
  pub whole : merged best (first (hits_from i e d (drop i ts))) ≡ nearest e d ts
  pub before : IfSome best (λ b. b.number < i)

pub start : (e d : Vec3) (ts : List Tri) → Progress e d ts 0 None
unfolding nearest
start e d ts = record { whole = refl; before = tt }

before_next : (best : Option Hit) (i : ℕ) → IfSome best (λ b. b.number < i) → IfSome best (λ b. b.number < i + 1)
before_next None i h = tt
before_next (Some b) i h = omega (arith, h)

nearer_number : (best : Option Hit) (h : Hit) → IfSome best (λ b. b.number < h.number) → (nearer best h).number < h.number + 1
nearer_number None h less = omega arith
nearer_number (Some b) h less = one (nat_le b.depth h.depth) where
  one : (t : Bool) → (if t then b else h).number < h.number + 1
  one true = omega (arith, less)
  one false = omega arith

misses : (e d : Vec3) (ts : List Tri) (i : ℕ) (z : Tri) (best : Option Hit) → i < length ts → depth e d (get_or ts i z) ≡ None → Progress e d ts i best → Progress e d ts (i + 1) best
misses e d ts i z best at h p = record {
  whole = ap (λ hs. merged best (first hs)) (sym (hits_miss e d ts i z at h)) ∙ p.whole;
  before = before_next best i p.before;
}

hits : (e d : Vec3) (ts : List Tri) (i n : ℕ) (z : Tri) (best : Option Hit) → i < length ts → depth e d (get_or ts i z) ≡ Some n → Progress e d ts i best → Progress e d ts (i + 1) (Some (nearer best (record { depth = n; number = i })))
unfolding first
hits e d ts i n z best at h p =
    let hit : Hit = record { depth = n; number = i } in
    record {
      whole =
          sym (merged_step best hit (first (hits_from (i + 1) e d (drop (i + 1) ts))) p.before)
          ∙ ap (λ hs. merged best (first hs)) (sym (hits_hit e d ts i n z at h)) ∙ p.whole;
      before = nearer_number best hit p.before;
    }

pub goes_on : (e d : Vec3) (ts : List Tri) (i : ℕ) (z : Tri) (best : Option Hit) (o : Option ℕ) → i < length ts → o ≡ depth e d (get_or ts i z) → Progress e d ts i best → Progress e d ts (i + 1) (sooner best i o)
goes_on e d ts i z best None at h p = misses e d ts i z best at (sym h) p
goes_on e d ts i z best (Some n) at h p = hits e d ts i n z best at (sym h) p

nothing_left : (best : Option Hit) → merged best None ≡ best
nothing_left None = refl
nothing_left (Some b) = refl

pub ends : (e d : Vec3) (ts : List Tri) (i : ℕ) (best : Option Hit) → length ts ≤ i → Progress e d ts i best → best ≡ nearest e d ts
unfolding first
ends e d ts i best past p = sym (ap (λ ts. merged best (first (hits_from i e d ts))) (drop_all i ts past) ∙ nothing_left best) ∙ p.whole
