-- Which slabs serve a segment on their axis. Clauses of private functions and types alone speak of them.
use Rattle.std.specs.Prelude.{◌≡◌, ℕ, true, false, ℤ, pos, ◌-ℤ◌, ◌*ℤ◌, ◌≤ℤ◌}
use Rattle.lc_hier.specs.declared.slab.Slab.{Slab}

-- the slab's low reciprocal is at most, its high one at least `whole` over the way from p to q; what is rounded only
-- opens the window
pub record Serves (whole : ℕ) (p q : ℤ) (slab : Slab) : Type 0 where
  pub start : slab.start ≡ p
  pub low : (slab.low *ℤ (q -ℤ p)) ≤ℤ pos whole
  pub high : pos whole ≤ℤ (slab.high *ℤ (q -ℤ slab.wide))
  pub forward : slab.backward ≡ false → (pos 0 ≤ℤ slab.low) × (pos 0 ≤ℤ slab.high) × (slab.wide ≤ℤ p)
  pub backward : slab.backward ≡ true → (slab.low ≤ℤ pos 0) × (slab.high ≤ℤ pos 0) × (p ≤ℤ slab.wide)
