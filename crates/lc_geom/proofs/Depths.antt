-- The depth of a hit is below 2^30, and comes from a crossing.
use Rattle.std.proofs.Common.{◌≡◌, ℕ, ◌+◌, ◌*◌, ◌^◌, ◌<◌, arith, Bool, true, false, refl}
use Rattle.std.proofs.Math.Nat.{div-lt_iff_lt-mul}
use Rattle.std.specs.Prelude.{Some, None, if◌then◌else◌}
use Rattle.std.proofs.lemmas.Option.{same_Some, none-some}
use Rattle.std.specs.Int.RustNames.{unsigned_abs}
use Rattle.lc_num.specs.declared.vectors.Vec3.{Vec3}
use Rattle.lc_geom.specs.declared.triangle.Tri.{Tri}
use Rattle.lc_geom.specs.Crossing.{side, crosses}
use Rattle.lc_geom.proofs.CrossingPoint.{off_end}
use Rattle.lc_geom.specs.Hits.{depth, depth_between, moved}

-- a part of a whole that is less than the whole
part_small : (s r : ℕ) → 0 < r → depth_between s r < 2 ^ 30
part_small s r h =
    let some : 0 < s + r = omega (arith, h) in (div-lt_iff_lt-mul {k = s + r} {x = 2 ^ 30 * s} {y = 2 ^ 30} some).1 (omega (arith, h))

pub depth_small : (p q : Vec3) (t : Tri) → crosses p q t ≡ true → depth_between (unsigned_abs (side t p)) (unsigned_abs (side t q)) < 2 ^ 30
depth_small p q t e = part_small (unsigned_abs (side t p)) (unsigned_abs (side t q)) (off_end p q t e)

-- ---- the depth at which a ray hits, and that it hits at none

chosen : (b : Bool) (m n : ℕ) → (if b then Some m else None) ≡ Some n → (b ≡ true) × (m ≡ n)
chosen true m n e = (refl, same_Some m n e)
chosen false m n e = absurd (none-some n e)

pub depth_crosses : (e d : Vec3) (t : Tri) (n : ℕ) → depth e d t ≡ Some n → (crosses e (moved e d) t ≡ true) × (depth_between (unsigned_abs (side t e)) (unsigned_abs (side t (moved e d))) ≡ n)
unfolding depth
depth_crosses e d t n h = chosen (crosses e (moved e d) t) _ n h

pub depth_misses : (e d : Vec3) (t : Tri) → crosses e (moved e d) t ≡ false → depth e d t ≡ None
unfolding depth
depth_misses e d t h = rw h refl

pub depth_below : (e d : Vec3) (t : Tri) (n : ℕ) → depth e d t ≡ Some n → n < 2 ^ 30
depth_below e d t n h = let c = depth_crosses e d t n h in omega (arith, depth_small e (moved e d) t c.0, c.1)
