-- Vectors as numbers: one as three, two as six, and the sizes of their products.
use Rattle.std.proofs.Common.{◌≡◌, ℕ, ◌*◌, ◌≤◌, arith, ℤ, List, [], ◌∷◌}
use Rattle.std.specs.Int.RustNames.{unsigned_abs}
use Rattle.lc_num.specs.declared.vectors.Vec3.{Vec3}
use Rattle.lc_num.specs.Vectors.{Within, dot}
use Rattle.lc_algebra.proofs.Poly.{Expression, var, ◌⊕◌, ◌⊗◌}
use Rattle.lc_algebra.proofs.Within.{AreWithin, none, more, within}

pub same_vector : (x y z p q r : ℤ) → x ≡ p → y ≡ q → z ≡ r → ◌≡◌ {A = Vec3} (record { x = x; y = y; z = z }) (record { x = p; y = q; z = r })
same_vector x y z p q r e f g = cc

abbrev pub six : Vec3 → Vec3 → List ℤ
six a b = a.x ∷ a.y ∷ a.z ∷ b.x ∷ b.y ∷ b.z ∷ []

abbrev pub bounds : ℕ → ℕ → List ℕ
bounds m n = m ∷ m ∷ m ∷ n ∷ n ∷ n ∷ []

pub six_within : (m n : ℕ) (a b : Vec3) → Within m a → Within n b → AreWithin (six a b) (bounds m n)
six_within m n a b ha hb = more ha.x (more ha.y (more ha.z (more hb.x (more hb.y (more hb.z none)))))

-- the first two terms of the dot product, and all three
abbrev pub two_terms : Expression
two_terms = var 0 ⊗ var 3 ⊕ var 1 ⊗ var 4

abbrev pub three_terms : Expression
three_terms = two_terms ⊕ var 2 ⊗ var 5

pub dot_bound : (m n : ℕ) (a b : Vec3) → Within m a → Within n b → unsigned_abs (dot a b) ≤ 3 * (m * n)
unfolding dot
dot_bound m n a b ha hb = omega (arith, within (six a b) (bounds m n) (six_within m n a b ha hb) three_terms)
