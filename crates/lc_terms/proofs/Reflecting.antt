-- The material term by its two cosines.
use Rattle.std.proofs.Common.{◌≡◌, ℕ, ◌*◌, ◌<◌, ◌==◌, false, refl, arith}
use Rattle.std.proofs.lemmas.Bool.Decides.{nat_tests}
use Rattle.lc_num.specs.Channels.{black}
use Rattle.lc_num.specs.Powers.{pow16}
use Rattle.lc_num.proofs.ScaledLemmas.{eqb_no}
use Rattle.lc_terms.specs.Factor.{material_by, reflected}
use Rattle.lc_terms.specs.declared.spot.Spot.{Spot}

pub material-dark : (spot : Spot) (cosine mirrored : ℕ) → cosine ≡ 0 → black ≡ material_by spot cosine mirrored
unfolding material_by
material-dark spot cosine mirrored e = rw e refl

same_reflected : (spot : Spot) (cosine h k : ℕ) → spot.ks.r * h ≡ spot.ks.r * k → spot.ks.g * h ≡ spot.ks.g * k → spot.ks.b * h ≡ spot.ks.b * k → reflected spot cosine h ≡ reflected spot cosine k
same_reflected spot cosine h k e f g = rw (e, f, g) refl

not_zero : (n : ℕ) → (n ≡ 0 → ⊥) → (n == 0) ≡ false
not_zero n some = grind (arith, nat_tests)

pub material-lit : (spot : Spot) (cosine mirrored h : ℕ) → (cosine ≡ 0 → ⊥) → spot.ks.r * h ≡ spot.ks.r * pow16 mirrored spot.ns → spot.ks.g * h ≡ spot.ks.g * pow16 mirrored spot.ns → spot.ks.b * h ≡ spot.ks.b * pow16 mirrored spot.ns → reflected spot cosine h ≡ material_by spot cosine mirrored
unfolding material_by
material-lit spot cosine mirrored h some e f g = rw (not_zero cosine some) (same_reflected spot cosine h (pow16 mirrored spot.ns) e f g)

pub material-of_lit : (spot : Spot) (cosine mirrored : ℕ) → 0 < cosine → material_by spot cosine mirrored ≡ reflected spot cosine (pow16 mirrored spot.ns)
unfolding material_by
material-of_lit spot cosine mirrored some = rw (eqb_no cosine 0 some) refl
