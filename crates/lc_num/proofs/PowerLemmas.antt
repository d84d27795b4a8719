-- Powers of cosines.
use Rattle.std.proofs.Common.{◌≡◌, ℕ, zero, suc, ◌+◌, ◌*◌, ◌/◌, ◌%◌, ◌^◌, ◌<◌, ◌≤◌, ◌==◌, arith, refl, ap, sym, ◌∙◌, le_trans, if◌then◌else◌, Bool, true, false}
use Rattle.std.proofs.lemmas.Nat.{le-div, mul-le}
use Rattle.std.proofs.Math.Nat.{div-mul-le_self, div-div-eq-div-mul, div-eq_of_lt-le, pow-suc}
use Rattle.lc_num.specs.Powers.{with_digit, power_in, pow16}

-- a quotient rises with what is divided
quotient_rises : (a b : ℕ) → a ≤ b → a / 65536 ≤ b / 65536
quotient_rises a b h = le-div (a / 65536) b 65536 (omega arith) (le_trans (div-mul-le_self a 65536) h)

-- ---- one digit more

digit-rises_by : (c d p q : ℕ) (even : Bool) → c ≤ d → p ≤ q → (if even then p * p / 65536 else c * (p * p / 65536) / 65536) ≤ (if even then q * q / 65536 else d * (q * q / 65536) / 65536)
digit-rises_by c d p q true more h = quotient_rises (p * p) (q * q) (mul-le p p q q h h)
digit-rises_by c d p q false more h =
    quotient_rises (c * (p * p / 65536)) (d * (q * q / 65536))
    (mul-le c (p * p / 65536) d (q * q / 65536) more (quotient_rises (p * p) (q * q) (mul-le p p q q h h)))

pub digit-rises : (c d digit p q : ℕ) → c ≤ d → p ≤ q → with_digit c digit p ≤ with_digit d digit q
digit-rises c d digit p q more h = digit-rises_by c d p q (digit == 0) more h

digit-most_by : (even : Bool) → (if even then 65536 * 65536 / 65536 else 65536 * (65536 * 65536 / 65536) / 65536) ≤ 65536
digit-most_by true = omega arith
digit-most_by false = omega arith

pub digit-most : (c digit p : ℕ) → c ≤ 65536 → p ≤ 65536 → with_digit c digit p ≤ 65536
digit-most c digit p hc hp = le_trans (digit-rises c 65536 digit p 65536 hc hp) (digit-most_by (digit == 0))

-- ---- powers

pub power_in-rises : (digits c d e : ℕ) → c ≤ d → power_in digits c e ≤ power_in digits d e
unfolding power_in
power_in-rises zero c d e h = omega arith
power_in-rises (suc digits) c d e h =
    digit-rises c d (e % 2) (power_in digits c (e / 2)) (power_in digits d (e / 2)) h (power_in-rises digits c d (e / 2) h)

power_in-most : (digits c e : ℕ) → c ≤ 65536 → power_in digits c e ≤ 65536
unfolding power_in
power_in-most zero c e h = omega arith
power_in-most (suc digits) c e h = digit-most c (e % 2) (power_in digits c (e / 2)) h (power_in-most digits c (e / 2) h)

pub pow16-rises : (c d e : ℕ) → c ≤ d → pow16 c e ≤ pow16 d e
unfolding pow16 power_in
pow16-rises c d e h = power_in-rises e c d e h

pub pow16-most : (c e : ℕ) → c ≤ 65536 → pow16 c e ≤ 65536
unfolding pow16 power_in
pow16-most c e h = power_in-most e c e h

-- ---- by squares

power_in-none : (digits c : ℕ) → power_in digits c 0 ≡ 65536
unfolding power_in
power_in-none zero c = refl
power_in-none (suc digits) c = rw (power_in-none digits c) (omega arith)

power_in-same : (a b c e : ℕ) → e ≤ a → e ≤ b → power_in a c e ≡ power_in b c e
unfolding power_in
power_in-same zero zero c e ha hb = refl
power_in-same zero (suc b) c e ha hb = let none : e ≡ 0 = omega arith in rw none (sym (power_in-none (suc b) c))
power_in-same (suc a) zero c e ha hb = let none : e ≡ 0 = omega arith in rw none (power_in-none (suc a) c)
power_in-same (suc a) (suc b) c e ha hb = rw (power_in-same a b c (e / 2) (omega arith) (omega arith)) refl

by_digit_at : (c n m : ℕ) → m ≡ n → power_in n c m ≡ with_digit c (m % 2) (power_in (m / 2) c (m / 2))
unfolding power_in
by_digit_at c zero m e = rw e refl
by_digit_at c (suc n) m e = rw (power_in-same n (m / 2) c (m / 2) (omega arith) (omega arith)) refl

pub pow16-none : (c : ℕ) → pow16 c 0 ≡ 65536
unfolding pow16 power_in
pow16-none c = refl

-- the last digit of an exponent
pub pow16-by_digit : (c m : ℕ) → pow16 c m ≡ with_digit c (m % 2) (pow16 c (m / 2))
unfolding pow16 power_in
pow16-by_digit c m = by_digit_at c m m refl

pub pow16-even : (c m : ℕ) → pow16 c (2 * m) ≡ pow16 c m * pow16 c m / 65536
pow16-even c m =
    let last : (2 * m) % 2 ≡ 0 = omega arith in
    let half : (2 * m) / 2 ≡ m = omega arith in
    pow16-by_digit c (2 * m) ∙ rw (last, half) refl

pub pow16-odd : (c m : ℕ) → pow16 c (2 * m + 1) ≡ c * pow16 c (2 * m) / 65536
pow16-odd c m =
    let last : (2 * m + 1) % 2 ≡ 1 = omega arith in
    let half : (2 * m + 1) / 2 ≡ m = omega arith in
    rw (pow16-even c m) (pow16-by_digit c (2 * m + 1) ∙ rw (last, half) refl)

-- ---- from the first digit of an exponent

-- the first digit
pub pow16-first : (c e place : ℕ) → 2 ^ place ≤ e → e < 2 * 2 ^ place → pow16 c (e / 2 ^ place) ≡ c
pow16-first c e place low high =
    let one : e / 2 ^ place ≡ 1 = div-eq_of_lt-le (2 ^ place) (omega arith) (omega arith) in
    rw one (pow16-odd c 0 ∙ rw (pow16-none c) (omega arith))

pub pow16-next : (c e place : ℕ) → with_digit c ((e / 2 ^ place) % 2) (pow16 c (e / 2 ^ suc place)) ≡ pow16 c (e / 2 ^ place)
pow16-next c e place =
    let halved = div-div-eq-div-mul e (2 ^ place) 2 ∙ ap (λ n. e / n) (sym (pow-suc 2 place)) in
    rw (← halved) (sym (pow16-by_digit c (e / 2 ^ place)))

-- all digits
pub pow16-whole : (c e place power : ℕ) → place ≤ 0 → power ≡ pow16 c (e / 2 ^ place) → power ≡ pow16 c e
pow16-whole c e place power none h =
    let last : place ≡ 0 = omega arith in
    let whole : e / 2 ^ 0 ≡ e = omega arith in
    h ∙ rw (last, whole) refl
