-- Numbers times powers of ten, to the nearest.
use Rattle.std.proofs.Common.{◌≡◌, ℕ, ◌+◌, ◌-◌, ◌*◌, ◌/◌, ◌%◌, ◌^◌, ◌<◌, ◌≤◌, sym, ap, ◌∙◌, arith}
use Rattle.std.proofs.lemmas.Nat.{pow-add, div-mul-add}
use Rattle.std.proofs.Math.Nat.{pow-le-pow_right, one-le-pow, mul-div-mul_right, div-eq_of_lt, mul-le-mul_left, mul_assoc, mul_comm, le-mul_of_pos_right}
use Rattle.lc_scan.specs.Decimal.{nearest, IsNearest}

pub ten_pos : (k : ℕ) → 0 < 10 ^ k
ten_pos k = one-le-pow k 10 (omega arith)

nearest_whole : (x m : ℕ) → 0 < m → nearest (x * m) m ≡ x
nearest_whole x m pos =
    let same : 2 * (x * m) + m ≡ x * (2 * m) + m = omega arith in
    ap (λ (y : ℕ). y / (2 * m)) same ∙ div-mul-add x (2 * m) m (omega arith)

nearest_cancels : (n t u : ℕ) → 0 < u → nearest (n * u) (t * u) ≡ nearest n t
nearest_cancels n t u pos =
    let a : 2 * (n * u) + t * u ≡ (2 * n + t) * u = omega arith in
    let b : 2 * (t * u) ≡ 2 * t * u = omega arith in
    ap (λ (y : ℕ). y / (2 * (t * u))) a ∙ ap (λ (y : ℕ). (2 * n + t) * u / y) b ∙ mul-div-mul_right (2 * n + t) (2 * t) pos

-- a power above the point
pub nearest_up : (n up down : ℕ) → down ≤ up → nearest (n * 10 ^ up) (10 ^ down) ≡ n * 10 ^ (up - down)
nearest_up n up down le =
    let split : 10 ^ up ≡ 10 ^ (up - down) * 10 ^ down = ap (λ (k : ℕ). 10 ^ k) (omega arith) ∙ pow-add 10 (up - down) down in
    let e : n * 10 ^ up ≡ n * 10 ^ (up - down) * 10 ^ down = ap (λ (y : ℕ). n * y) split ∙ sym (mul_assoc n (10 ^ (up - down)) (10 ^ down)) in
    ap (λ (y : ℕ). nearest y (10 ^ down)) e ∙ nearest_whole (n * 10 ^ (up - down)) (10 ^ down) (ten_pos down)

-- a power below it
pub nearest_down : (n up down : ℕ) → up ≤ down → nearest (n * 10 ^ up) (10 ^ down) ≡ nearest n (10 ^ (down - up))
nearest_down n up down le =
    let split : 10 ^ down ≡ 10 ^ (down - up) * 10 ^ up = ap (λ (k : ℕ). 10 ^ k) (omega arith) ∙ pow-add 10 (down - up) up in
    ap (λ (y : ℕ). nearest (n * 10 ^ up) y) split ∙ nearest_cancels n (10 ^ (down - up)) (10 ^ up) (ten_pos up)

pub nothing_left : (n t : ℕ) → n < 10 ^ 30 → 30 < t → nearest n (10 ^ t) ≡ 0
nothing_left n t small lt =
    let big : 10 ^ 31 ≤ 10 ^ t = pow-le-pow_right {n = 10} (omega arith) {i = 31} {j = t} (omega arith) in
    div-eq_of_lt (omega arith)

pub far_up : (n s : ℕ) → 0 < n → 14 < s → 10 ^ 14 < n * 10 ^ s
far_up n s pos lt =
    let big : 10 ^ 15 ≤ 10 ^ s = pow-le-pow_right {n = 10} (omega arith) {i = 15} {j = s} (omega arith) in
    let more : 1 * 10 ^ s ≤ n * 10 ^ s = omega (arith, mul-le-mul_left (10 ^ s) pos, mul_comm (10 ^ s) n) in
    omega arith

pub no_less : (n s : ℕ) → n ≤ n * 10 ^ s
no_less n s = le-mul_of_pos_right n (ten_pos s)

pub unit_below : (t : ℕ) → t ≤ 30 → 10 ^ t ≤ 10 ^ 30
unit_below t le = pow-le-pow_right {n = 10} (omega arith) le

pub shift_below : (t : ℕ) → t ≤ 14 → 10 ^ t ≤ 10 ^ 14
shift_below t le = pow-le-pow_right {n = 10} (omega arith) le

pub few_digits : (v n : ℕ) → v < 10 ^ n → n ≤ 30 → v < 10 ^ 30
few_digits v n lt le = omega (arith, unit_below n le)

-- the formula gives the nearest number
pub nearest_is : (t b : ℕ) → 0 < b → IsNearest (nearest t b) t b
nearest_is t b some =
    let whole : 2 * b * nearest t b + (2 * t + b) % (2 * b) ≡ 2 * t + b = omega arith in
    let left : (2 * t + b) % (2 * b) < 2 * b = omega arith in
    let same : 2 * nearest t b * b ≡ 2 * b * nearest t b = mul_assoc 2 (nearest t b) b ∙ ap (λ (y : ℕ). 2 * y) (mul_comm (nearest t b) b) ∙ sym (mul_assoc 2 b (nearest t b)) in
    record { low = omega arith; high = omega arith }
