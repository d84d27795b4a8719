use Rattle.std.proofs.Common.{◌≡◌, ◌≤◌, arith, ℤ, ◌+ℤ◌}
use Rattle.std.proofs.lemmas.Int.{ints}
use Rattle.std.specs.Int.{w64}
use Rattle.std.specs.Int.RustNames.{unsigned_abs}
use Rattle.lc_num.specs.declared.vectors.Vec3.{Vec3}
use Rattle.lc_algebra.proofs.Machine.{read, read_small}
use Rattle.lc_geom.proofs.hit.moved.Goals as goal

same_vector : (x y z p q r : ℤ) → x ≡ p → y ≡ q → z ≡ r → ◌≡◌ {A = Vec3} (record { x = x; y = y; z = z }) (record { x = p; y = q; z = r })
same_vector x y z p q r e f g = cc

part : (e d : ℤ) → unsigned_abs e ≤ 50_100_000 → unsigned_abs (e +ℤ d) ≤ 320_000_000 → read w64 (read w64 e +ℤ read w64 d) ≡ e +ℤ d
part e d he hs =
    let small : unsigned_abs d ≤ 370_100_000 = omega (arith, ints, he, hs) in
    rw (read_small w64 e (omega (arith, he)), read_small w64 d (omega (arith, small))) (read_small w64 (e +ℤ d) (omega (arith, hs)))

pub returns : goal.returns
returns c =
    same_vector _ _ _ _ _ _
    (part c.args.e.x c.args.d.x c.requires.e.x c.requires.end.x)
    (part c.args.e.y c.args.d.y c.requires.e.y c.requires.end.y)
    (part c.args.e.z c.args.d.z c.requires.e.z c.requires.end.z)
