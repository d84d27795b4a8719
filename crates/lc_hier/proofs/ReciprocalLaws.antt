-- Bounds of the reciprocal of a length that is rounded down to steps.
use Rattle.std.proofs.Common.{◌≡◌, ℕ, ◌+◌, ◌*◌, ◌/◌, ◌%◌, ◌^◌, ◌<◌, ◌≤◌, arith, ◌∙◌}
use Rattle.std.proofs.lemmas.Nat.{pow-add, pow_pos, shl_whole}
use Rattle.std.proofs.Math.Nat.{lt-mul-div-succ, mul-div-le, div-mul-le_self, mul-le-mul_left, mul-le-mul_right, pow-le-pow_right}

-- the steps of a length: it is u steps and less than one more
pub steps_low : (length shift : ℕ) → length / 2 ^ shift * 2 ^ shift ≤ length
steps_low length shift = div-mul-le_self length (2 ^ shift)

pub steps_high : (length shift : ℕ) → length < (length / 2 ^ shift + 1) * 2 ^ shift
steps_high length shift = omega (arith, lt-mul-div-succ length (pow_pos shift))

low_of_steps : (one u k length : ℕ) → length < (u + 1) * k → one / (u + 1) * length ≤ one * k
low_of_steps one u k length h =
    let a : one / (u + 1) * length ≤ one / (u + 1) * ((u + 1) * k) = mul-le-mul_left (one / (u + 1)) (omega arith) in
    let b : one / (u + 1) * (u + 1) * k ≤ one * k = mul-le-mul_right k (div-mul-le_self one (u + 1)) in
    omega arith

high_of_steps : (one u k length : ℕ) → 0 < u → u * k ≤ length → one * k ≤ (one / u + 1) * length
high_of_steps one u k length some h =
    let a : one < u * (one / u + 1) = lt-mul-div-succ one some in
    let b : one * k ≤ u * (one / u + 1) * k = mul-le-mul_right k (omega arith) in
    let d : (one / u + 1) * (u * k) ≤ (one / u + 1) * length = mul-le-mul_left (one / u + 1) h in
    omega arith

whole_of : (shift : ℕ) → 2 ^ (30 + shift) ≡ 2 ^ 30 * 2 ^ shift
whole_of shift = pow-add 2 30 shift

pub low_rounded : (length shift : ℕ) → 2 ^ 30 / (length / 2 ^ shift + 1) * length ≤ 2 ^ (30 + shift)
low_rounded length shift = rw (whole_of shift) (low_of_steps (2 ^ 30) (length / 2 ^ shift) (2 ^ shift) length (steps_high length shift))

pub low_exact : (length shift : ℕ) → shift ≡ 0 → 2 ^ 30 / (length / 2 ^ shift) * length ≤ 2 ^ (30 + shift)
low_exact length shift none =
    let low : length / 2 ^ 0 * 2 ^ 0 ≤ length = steps_low length 0 in
    let high : length < (length / 2 ^ 0 + 1) * 2 ^ 0 = steps_high length 0 in
    let e : length / 2 ^ 0 ≡ length = omega arith in
    rw (none, e) (div-mul-le_self (2 ^ 30) length)

pub high_rounded : (length shift : ℕ) → 0 < length / 2 ^ shift → 2 ^ (30 + shift) ≤ (2 ^ 30 / (length / 2 ^ shift) + 1) * length
high_rounded length shift some = rw (whole_of shift) (high_of_steps (2 ^ 30) (length / 2 ^ shift) (2 ^ shift) length some (steps_low length shift))

pub high_small : (u : ℕ) → 2 ^ 30 / u ≤ 2 ^ 30
high_small u = omega (arith, mul-div-le (2 ^ 30) u)

-- less than a step
below_step : (length shift : ℕ) → length / 2 ^ shift ≡ 0 → length < 2 ^ shift
below_step length shift none = let h = rw none at (steps_high length shift) in omega arith

pub low_short : (length shift : ℕ) → length / 2 ^ shift ≡ 0 → 2 ^ 30 * length ≤ 2 ^ (30 + shift)
low_short length shift none = rw (whole_of shift) (let h = below_step length shift none in omega arith)

pub step_is : (shift : ℕ) → shift ≤ 12 → 1 * 2 ^ shift % 2 ^ 32 ≡ 2 ^ shift
step_is shift few = shl_whole 1 1 shift 32 (omega arith) (omega arith) ∙ omega arith

pub step_small : (shift : ℕ) → shift ≤ 12 → 1 * 2 ^ shift % 2 ^ 32 ≤ 2 ^ 12
step_small shift few = rw (step_is shift few) (pow-le-pow_right {n = 2} (omega arith) {i = shift} {j = 12} few)

pub high_short : (length shift : ℕ) → shift ≤ 12 → 2 ^ (30 + shift) ≤ 2 ^ 30 * (length + 1 * 2 ^ shift % 2 ^ 32)
high_short length shift few = rw (whole_of shift, step_is shift few) (omega arith)

pub steps_small : (length shift : ℕ) → length < 2 ^ 32 → 0 < shift → length / 2 ^ shift + 1 < 2 ^ 32
steps_small length shift small some =
    let two : 2 ^ 1 ≤ 2 ^ shift = pow-le-pow_right {n = 2} (omega arith) {i = 1} {j = shift} some in
    let h : length / 2 ^ shift * 2 ≤ length / 2 ^ shift * 2 ^ shift = mul-le-mul_left (length / 2 ^ shift) two in
    omega (arith, steps_low length shift)
