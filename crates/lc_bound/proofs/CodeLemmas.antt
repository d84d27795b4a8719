-- What the code of boxes and bounds gives.
use Rattle.std.proofs.Common.{◌≡◌, ℕ, ◌*◌, arith}
use Rattle.lc_num.specs.Channels.{black, times, by_power}
use Rattle.lc_num.specs.declared.channels.Rgb.{Rgb}
use Rattle.lc_num.specs.declared.channels.Power.{Power}
use Rattle.lc_bound.specs.Reach.{emitted}

same_channels : (x y z p q r : ℕ) → x ≡ p → y ≡ q → z ≡ r → ◌≡◌ {A = Rgb} (record { r = x; g = y; b = z }) (record { r = p; g = q; b = r })
same_channels x y z p q r e f g = cc

unlit_channel : (cosine geometry material total : ℕ) → cosine ≡ 0 → 0 ≡ (emitted cosine geometry * material) * total
unlit_channel cosine geometry material total e =
    let none : emitted cosine geometry ≡ 0 = rw e (omega arith) in
    rw none (omega arith)

-- where no light leaves toward the spot, the bound is black
pub dark_top : (cosine geometry : ℕ) (material : Rgb) (total : Power) → cosine ≡ 0 → black ≡ by_power (times (emitted cosine geometry) material) total
dark_top cosine geometry material total e =
    same_channels 0 0 0 _ _ _
    (unlit_channel cosine geometry material.r total.r e)
    (unlit_channel cosine geometry material.g total.g e)
    (unlit_channel cosine geometry material.b total.b e)
