-- Identities of the sides of a triangle's plane and the volumes between a segment and the triangle's sides.
use Rattle.std.proofs.Common.{◌≡◌, ℤ, pos, ◌-ℤ◌, List, [], ◌∷◌, refl}
use Rattle.lc_num.specs.Vectors.{difference, dot, cross}
use Rattle.lc_num.specs.declared.vectors.Vec3.{Vec3}
use Rattle.lc_algebra.proofs.Poly.{Expression, var, con, add, sub, mul, ring, same}
use Rattle.lc_geom.specs.declared.triangle.Tri.{Tri}
use Rattle.lc_geom.specs.Crossing.{side, volume}

-- ---- vectors of expressions

pub record Symbols : Type 0 where
  pub x : Expression
  pub y : Expression
  pub z : Expression

abbrev pub vector : Expression → Expression → Expression → Symbols
vector x y z = record { x = x; y = y; z = z }

abbrev pub minus : Symbols → Symbols → Symbols
minus a b = vector (sub a.x b.x) (sub a.y b.y) (sub a.z b.z)

abbrev pub dotted : Symbols → Symbols → Expression
dotted a b = add (add (mul a.x b.x) (mul a.y b.y)) (mul a.z b.z)

abbrev pub crossed : Symbols → Symbols → Symbols
crossed a b = vector (sub (mul a.y b.z) (mul a.z b.y)) (sub (mul a.z b.x) (mul a.x b.z)) (sub (mul a.x b.y) (mul a.y b.x))

abbrev pub side_of : Symbols → Symbols → Symbols → Symbols → Expression
side_of a b c p = dotted (crossed (minus b a) (minus c a)) (minus p a)

abbrev pub volume_of : Symbols → Symbols → Symbols → Symbols → Expression
volume_of p q u v = dotted (minus q p) (crossed (minus u p) (minus v p))

abbrev twelve : Vec3 → Vec3 → Vec3 → Vec3 → List ℤ
twelve a b p q = a.x ∷ a.y ∷ a.z ∷ b.x ∷ b.y ∷ b.z ∷ p.x ∷ p.y ∷ p.z ∷ q.x ∷ q.y ∷ q.z ∷ []

abbrev pub first : Symbols
first = vector (var 0) (var 1) (var 2)

abbrev pub second : Symbols
second = vector (var 3) (var 4) (var 5)

abbrev pub third : Symbols
third = vector (var 6) (var 7) (var 8)

abbrev pub fourth : Symbols
fourth = vector (var 9) (var 10) (var 11)

abbrev pub fifth : Symbols
fifth = vector (var 12) (var 13) (var 14)

-- ---- the laws

-- a volume by the cross product of the second corner's way and the segment
pub volume_before : (a b p q : Vec3) → dot (difference a p) (cross (difference b p) (difference q p)) ≡ volume p q a b
unfolding dot cross volume same
volume_before a b p q =
    ring (twelve a b p q) (dotted (minus first third) (crossed (minus second third) (minus fourth third))) (volume_of third fourth first second) refl

-- and by that of the first corner's way and the segment
pub volume_after : (b c p q : Vec3) → pos 0 -ℤ dot (difference c p) (cross (difference b p) (difference q p)) ≡ volume p q b c
unfolding dot cross volume same
volume_after b c p q =
    ring (twelve b c p q) (sub (con (pos 0)) (dotted (minus second third) (crossed (minus first third) (minus fourth third)))) (volume_of third fourth first second) refl

-- the three volumes add up to the difference of the two sides
pub volumes_sum : (t : Tri) (p q : Vec3) → (side t q -ℤ side t p) -ℤ volume p q t.a t.b -ℤ volume p q t.b t.c ≡ volume p q t.c t.a
unfolding dot cross side volume same
volumes_sum t p q =
    ring (t.a.x ∷ t.a.y ∷ t.a.z ∷ t.b.x ∷ t.b.y ∷ t.b.z ∷ t.c.x ∷ t.c.y ∷ t.c.z ∷ p.x ∷ p.y ∷ p.z ∷ q.x ∷ q.y ∷ q.z ∷ [])
    (sub (sub (sub (side_of first second third fifth) (side_of first second third fourth)) (volume_of fourth fifth first second)) (volume_of fourth fifth second third))
    (volume_of fourth fifth third first)
    refl
