-- Which triangles of a list block a segment.
use Rattle.std.proofs.Common.{◌≡◌, ℕ, zero, suc, Bool, true, false, List, [], ◌∷◌, refl, Some}
use Rattle.std.specs.Prelude.{◌||◌, slice_get}
use Rattle.std.specs.List.{list_any}
use Rattle.lc_num.specs.declared.vectors.Vec3.{Vec3}
use Rattle.lc_geom.specs.declared.triangle.Tri.{Tri}
use Rattle.lc_geom.specs.Crossing.{crosses}
use Rattle.lc_geom.specs.Hits.{blocked}

module _ {A : Type 0} (test : A → Bool) where
  pub any_some : (xs : List A) → list_any test xs ≡ true → (i : ℕ) × (x : A) × (slice_get xs i ≡ Some x) × (test x ≡ true)
  any_some [] e = absurd cc
  any_some (x ∷ xs) e = of_test (test x) refl e (λ f. any_some xs f) where
    of_test : (b : Bool) → test x ≡ b → (b || list_any test xs) ≡ true → (list_any test xs ≡ true → (i : ℕ) × (y : A) × (slice_get xs i ≡ Some y) × (test y ≡ true)) → (i : ℕ) × (y : A) × (slice_get (x ∷ xs) i ≡ Some y) × (test y ≡ true)
    of_test true q f rest = (0, x, refl, q)
    of_test false q f rest = let r = rest f in (suc r.0, r.1, r.2, r.3)

  pub some_any : (xs : List A) (i : ℕ) (x : A) → slice_get xs i ≡ Some x → test x ≡ true → list_any test xs ≡ true
  some_any [] i x at e = absurd cc
  some_any (y ∷ xs) zero x at e = let same : y ≡ x = cc in rw (same, e) refl
  some_any (y ∷ xs) (suc i) x at e = of_test (test y) (some_any xs i x at e) where
    of_test : (b : Bool) → list_any test xs ≡ true → (b || list_any test xs) ≡ true
    of_test true f = refl
    of_test false f = f

pub blocked_some : (p q : Vec3) (ts : List Tri) → blocked p q ts ≡ true → (number : ℕ) × (t : Tri) × (slice_get ts number ≡ Some t) × (crosses p q t ≡ true)
unfolding blocked
blocked_some p q ts e = any_some (crosses p q) ts e

pub blocked_each : (p q : Vec3) (ts : List Tri) (number : ℕ) (t : Tri) → slice_get ts number ≡ Some t → crosses p q t ≡ true → blocked p q ts ≡ true
unfolding blocked
blocked_each p q ts number t at e = some_any (crosses p q) ts number t at e

-- no triangle of the list blocks
pub blocked_not : (p q : Vec3) (ts : List Tri) → ((number : ℕ) (t : Tri) → slice_get ts number ≡ Some t → crosses p q t ≡ false) → blocked p q ts ≡ false
blocked_not p q ts none = of_test (blocked p q ts) refl where
  of_test : (b : Bool) → blocked p q ts ≡ b → blocked p q ts ≡ false
  of_test true e = let r = blocked_some p q ts e in let f = none r.0 r.1 r.2 in let g = r.3 in absurd (cc)
  of_test false e = e
