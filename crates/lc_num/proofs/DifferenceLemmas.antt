-- Differences as the code computes them.
use Rattle.std.proofs.Common.{◌≡◌, ◌^◌, ◌≤◌, ℤ, ◌-ℤ◌, [], ◌∷◌}
use Rattle.std.specs.Int.{w64}
use Rattle.std.specs.Int.RustNames.{unsigned_abs}
use Rattle.lc_algebra.proofs.Poly.{var, ◌⊖◌}
use Rattle.lc_algebra.proofs.Within.{none, more}
use Rattle.lc_algebra.proofs.Machine.{read, gives}
use Rattle.lc_num.specs.Vectors.{Within, difference}
use Rattle.lc_num.specs.declared.vectors.Vec3.{Vec3}
use Rattle.lc_num.proofs.Triples.{same_vector}

-- the code of one component
component : (a b : ℤ) → unsigned_abs a ≤ 2 ^ 60 → unsigned_abs b ≤ 2 ^ 60 → read w64 (read w64 a -ℤ read w64 b) ≡ a -ℤ b
component a b ha hb = gives w64 (a ∷ b ∷ []) (2 ^ 60 ∷ 2 ^ 60 ∷ []) (more ha (more hb none)) (var 0 ⊖ var 1) tt

pub components : (a b : Vec3) → Within (2 ^ 60) a → Within (2 ^ 60) b →
    ◌≡◌ {A = Vec3} (record {
      x = read w64 (read w64 a.x -ℤ read w64 b.x);
      y = read w64 (read w64 a.y -ℤ read w64 b.y);
      z = read w64 (read w64 a.z -ℤ read w64 b.z);
    }) (difference a b)
components a b ha hb = same_vector _ _ _ _ _ _ (component a.x b.x ha.x hb.x) (component a.y b.y ha.y hb.y) (component a.z b.z ha.z hb.z)
