-- What the code of beams computes.
use Rattle.std.proofs.Common.{◌≡◌, ℕ, ◌+◌, ◌-◌, ◌*◌, ◌%◌, ◌^◌, ◌<◌, ◌≤◌, arith, ⊎_elim, ℤ, pos, ◌+ℤ◌, ◌-ℤ◌, to_z}
use Rattle.std.specs.Int.{w64}
use Rattle.std.specs.Int.RustNames.{unsigned_abs}
use Rattle.lc_algebra.proofs.Machine.{read}
use Rattle.std.proofs.lemmas.Int.{ints}
use Rattle.std.proofs.lemmas.Bool.{cases_lt}
use Rattle.std.proofs.lemmas.Nat.{pow_pos, shl_whole, mul-le}
use Rattle.std.proofs.Math.Nat.{pow-le-pow_right}

last_small : (most shift : ℕ) → most < 2 ^ 30 → shift ≤ 12 → (most + 1) * 2 ^ shift ≤ 2 ^ 30 * 2 ^ 12
last_small most shift small few = mul-le (most + 1) (2 ^ shift) (2 ^ 30) (2 ^ 12) (omega arith) (pow-le-pow_right {n = 2} (omega arith) {i = shift} {j = 12} few)

last_some : (most shift : ℕ) → 1 ≤ (most + 1) * 2 ^ shift
last_some most shift = mul-le 1 1 (most + 1) (2 ^ shift) (omega arith) (pow_pos shift)

pub last_is : (most shift : ℕ) → most < 2 ^ 30 → shift ≤ 12 → to_z w64 ((most + 1) * 2 ^ shift % 2 ^ 64 - 1) +ℤ pos 1 ≡ pos ((most + 1) * 2 ^ shift)
last_is most shift small few =
    let e : (most + 1) * 2 ^ shift % 2 ^ 64 ≡ (most + 1) * 2 ^ shift = shl_whole (most + 1) 31 shift 64 (omega arith) (omega arith) in
    rw e (omega (arith, ints, last_small most shift small few, last_some most shift))

pub few_bits : (m r : ℕ) → 2 ^ r ≤ m → m < 2 ^ 13 → r ≤ 12
few_bits m r h small =
    ⊎_elim
    (λ (more : 12 < r). absurd (let k : 2 ^ 13 ≤ 2 ^ r = pow-le-pow_right {n = 2} (omega arith) {i = 13} {j = r} more in omega arith))
    (λ (few : r ≤ 12). few)
    (cases_lt 12 r)

pub way_small : (p q : ℤ) → unsigned_abs p ≤ 50_100_000 → unsigned_abs q ≤ 320_000_000 → unsigned_abs (read w64 q -ℤ read w64 p) ≤ 370_100_000
way_small p q hp hq = omega (arith, ints)
