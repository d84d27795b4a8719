-- Slabs that are made of reciprocals serve.
use Rattle.std.proofs.Common.{◌≡◌, ℕ, ◌+◌, ◌*◌, ◌^◌, ◌≤◌, true, false, arith, refl, ℤ, pos, ◌+ℤ◌, ◌-ℤ◌, ◌*ℤ◌, ◌≤ℤ◌, [], ◌∷◌, to_z, subst, FitsSigned}
use Rattle.std.specs.Prelude.{int_lt}
use Rattle.std.specs.Int.{w64}
use Rattle.std.specs.Int.RustNames.{unsigned_abs}
use Rattle.std.proofs.lemmas.Int.{ints, to_z-of_z}
use Rattle.lc_algebra.proofs.Poly.{var, con, ◌⊖◌, ◌⊗◌, ring, same}
use Rattle.lc_algebra.proofs.Machine.{read}
use Rattle.lc_hier.specs.declared.slab.Slab.{Slab}
use Rattle.lc_hier.specs.Slabs.{Serves}

turned_product : (a b : ℤ) → (pos 0 -ℤ a) *ℤ (pos 0 -ℤ b) ≡ a *ℤ b
unfolding same
turned_product a b = ring (a ∷ b ∷ []) ((con (pos 0) ⊖ var 0) ⊗ (con (pos 0) ⊖ var 1)) (var 0 ⊗ var 1) refl

module _ (whole : ℕ) (p q : ℤ) (n low high slack : ℕ) (below : low * n ≤ whole) (above : whole ≤ high * (n + slack)) where
  forward : (slab : Slab) → q -ℤ p ≡ pos n → slab.start ≡ p → slab.wide ≡ p -ℤ pos slack → slab.low ≡ pos low → slab.high ≡ pos high → slab.backward ≡ false → Serves whole p q slab
  forward slab way es ew el eh eb =
      let long : q -ℤ slab.wide ≡ pos (n + slack) = omega (arith, ints, way, ew) in
      record {
        start = es;
        low = rw (el, way) (omega (arith, ints, below));
        high = rw (eh, long) (omega (arith, ints, above));
        forward = λ _. (rw el (omega (arith, ints)), rw eh (omega (arith, ints)), omega (arith, ints, ew));
        backward = λ f. let clash : true ≡ false = cc in absurd (cc clash);
      }

  backward : (slab : Slab) → q -ℤ p ≡ pos 0 -ℤ pos n → slab.start ≡ p → slab.wide ≡ p +ℤ pos slack → slab.low ≡ pos 0 -ℤ pos low → slab.high ≡ pos 0 -ℤ pos high → slab.backward ≡ true → Serves whole p q slab
  backward slab way es ew el eh eb =
      let long : q -ℤ slab.wide ≡ pos 0 -ℤ pos (n + slack) = omega (arith, ints, way, ew) in
      record {
        start = es;
        low = rw (el, way, turned_product (pos low) (pos n)) (omega (arith, ints, below));
        high = rw (eh, long, turned_product (pos high) (pos (n + slack))) (omega (arith, ints, above));
        forward = λ f. let clash : true ≡ false = cc in absurd (cc clash);
        backward = λ _. (rw el (omega (arith, ints)), rw eh (omega (arith, ints)), omega (arith, ints, ew));
      }

  -- as the code computes it
  module _ (hp : unsigned_abs p ≤ 50_100_000) (hq : unsigned_abs q ≤ 320_000_000) (size : n ≡ unsigned_abs (read w64 (read w64 q -ℤ read w64 p))) (ls : low ≤ 2 ^ 30) (hs : high ≤ 2 ^ 30 + 1) (ss : slack ≤ 2 ^ 12) where
    pub made_forward : (slab : Slab) → int_lt q p ≡ false → slab.start ≡ read w64 p → slab.wide ≡ read w64 (read w64 p -ℤ to_z w64 slack) → slab.low ≡ to_z w64 low → slab.high ≡ to_z w64 high → slab.backward ≡ false → Serves whole p q slab
    made_forward slab order es ew el eh eb =
        forward slab (omega (arith, ints, not_less order)) (omega (arith, ints, es)) (omega (arith, ints, ew)) (omega (arith, ints, el)) (omega (arith, ints, eh)) eb
      where
        not_less : int_lt q p ≡ false → p ≤ℤ q
        not_less e = grind (arith, ints)

    pub made_backward : (slab : Slab) → int_lt q p ≡ true → slab.start ≡ read w64 p → slab.wide ≡ read w64 (read w64 p +ℤ to_z w64 slack) → slab.low ≡ read w64 (pos 0 -ℤ to_z w64 low) → slab.high ≡ read w64 (pos 0 -ℤ to_z w64 high) → slab.backward ≡ true → Serves whole p q slab
    made_backward slab order es ew el eh eb =
        backward slab (omega (arith, ints, less order)) (omega (arith, ints, es)) (omega (arith, ints, ew)) (omega (arith, ints, el)) (omega (arith, ints, eh)) eb
      where
        less : int_lt q p ≡ true → q ≤ℤ p
        less e = grind (arith, ints)

pub serves_read : (whole : ℕ) (p q : ℤ) (slab : Slab) → FitsSigned w64 p → FitsSigned w64 q → Serves whole (read w64 p) (read w64 q) slab → Serves whole p q slab
serves_read whole p q slab fp fq h =
    subst (λ (u : ℤ). Serves whole u q slab) (to_z-of_z w64 p fp) (subst (λ (v : ℤ). Serves whole (read w64 p) v slab) (to_z-of_z w64 q fq) h)
