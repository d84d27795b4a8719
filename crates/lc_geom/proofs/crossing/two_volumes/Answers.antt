use Rattle.std.proofs.Common.{◌≡◌, ◌*◌, ◌^◌, ◌<◌, arith, ap, ◌∙◌, ℤ, pos, ◌-ℤ◌, ap₂}
use Rattle.std.specs.Int.{w128}
use Rattle.std.specs.Int.RustNames.{unsigned_abs}
use Rattle.lc_algebra.proofs.Machine.{read}
use Rattle.lc_num.specs.Vectors.{Within, dot, cross}
use Rattle.lc_num.specs.declared.vectors.Vec3.{Vec3}
use Rattle.lc_num.proofs.Triples.{dot_bound}
use Rattle.lc_geom.proofs.CrossingLaws.{volume_before, volume_after}
use Rattle.lc_geom.proofs.CrossingCode.{read_short, negative_fits, negative_gives, negative_small, within_more}
use Rattle.lc_geom.proofs.crossing.two_volumes.Goals as goal

wide : (n : Vec3) → Within (2 * (100_100_000 * 370_100_000)) n → Within (2 ^ 57) n
wide n h = within_more (2 * (100_100_000 * 370_100_000)) (2 ^ 57) n (omega arith) h

-- a way of at most 100,100,000 and a turned vector: their dot product is small, and that of what they are
small_dot : (a n : Vec3) (z : ℤ) → Within 100_100_000 a → Within (2 ^ 57) n → z ≡ dot a n → unsigned_abs z < 2 ^ 87
small_dot a n z ha hn e = rw e (omega (arith, dot_bound 100_100_000 (2 ^ 57) a n ha hn))

same_dot : (z : ℤ) (a n x b d y w : Vec3) → z ≡ dot a n → a ≡ x → n ≡ cross b d → b ≡ y → d ≡ w → z ≡ dot x (cross y w)
same_dot z a n x b d y w e f g h k = e ∙ ap₂ (λ u v. dot u v) f (g ∙ ap₂ (λ u v. cross u v) h k)

pub dot-requires-clause-b : goal.dot-requires-clause-b
dot-requires-clause-b c =
    let b = c.difference.ensures.within 50_000_000 50_100_000 c.requires.t.b c.requires.p in
    let d = c.difference-2.ensures.within 320_000_000 50_100_000 c.requires.q c.requires.p in
    within_more (2 * (100_100_000 * 370_100_000)) (2 ^ 60) c.cross-turned.result (omega arith) (c.cross-turned.ensures.within 100_100_000 370_100_000 b d)

pub dot-requires-2-clause-a : goal.dot-requires-2-clause-a
dot-requires-2-clause-a c = within_more 100_100_000 (2 ^ 60) c.difference-4.result (omega arith) (c.difference-4.ensures.within 50_000_000 50_100_000 c.requires.t.c c.requires.p)

pub dot-requires-2-clause-b : goal.dot-requires-2-clause-b
dot-requires-2-clause-b c =
    let b = c.difference.ensures.within 50_000_000 50_100_000 c.requires.t.b c.requires.p in
    let d = c.difference-2.ensures.within 320_000_000 50_100_000 c.requires.q c.requires.p in
    within_more (2 * (100_100_000 * 370_100_000)) (2 ^ 60) c.cross-turned.result (omega arith) (c.cross-turned.ensures.within 100_100_000 370_100_000 b d)

first_small : (c : goal.After-dot-2) → unsigned_abs c.dot.result < 2 ^ 87
first_small c =
    let b = c.difference.ensures.within 50_000_000 50_100_000 c.requires.t.b c.requires.p in
    let d = c.difference-2.ensures.within 320_000_000 50_100_000 c.requires.q c.requires.p in
    small_dot c.difference-3.result c.cross-turned.result c.dot.result (c.difference-3.ensures.within 50_000_000 50_100_000 c.requires.t.a c.requires.p) (wide c.cross-turned.result (c.cross-turned.ensures.within 100_100_000 370_100_000 b d)) c.dot.ensures

second_small : (c : goal.After-dot-2) → unsigned_abs c.dot-2.result < 2 ^ 87
second_small c =
    let b = c.difference.ensures.within 50_000_000 50_100_000 c.requires.t.b c.requires.p in
    let d = c.difference-2.ensures.within 320_000_000 50_100_000 c.requires.q c.requires.p in
    small_dot c.difference-4.result c.cross-turned.result c.dot-2.result (c.difference-4.ensures.within 50_000_000 50_100_000 c.requires.t.c c.requires.p) (wide c.cross-turned.result (c.cross-turned.ensures.within 100_100_000 370_100_000 b d)) c.dot-2.ensures

first_read : (c : goal.After-dot-2) → read w128 c.dot.result ≡ c.dot.result
first_read c = read_short c.dot.result (first_small c)

second_read : (c : goal.After-dot-2) → read w128 (pos 0 -ℤ read w128 c.dot-2.result) ≡ pos 0 -ℤ c.dot-2.result
second_read c = negative_gives c.dot-2.result (omega (arith, second_small c))

pub overflow_sub-result : goal.overflow_sub-result
overflow_sub-result c = negative_fits c.dot-2.result (omega (arith, second_small c))

pub returns-clause-first : goal.returns-clause-first
returns-clause-first c =
    first_read c
    ∙ same_dot c.dot.result _ _ _ _ _ _ _ c.dot.ensures c.difference-3.ensures.value c.cross-turned.ensures.value c.difference.ensures.value c.difference-2.ensures.value
    ∙ volume_before c.args.t.now.a c.args.t.now.b c.args.p c.args.q

pub returns-clause-second : goal.returns-clause-second
returns-clause-second c =
    second_read c
    ∙ ap (λ z. pos 0 -ℤ z) (same_dot c.dot-2.result _ _ _ _ _ _ _ c.dot-2.ensures c.difference-4.ensures.value c.cross-turned.ensures.value c.difference.ensures.value c.difference-2.ensures.value)
    ∙ volume_after c.args.t.now.b c.args.t.now.c c.args.p c.args.q

pub returns-clause-most_first : goal.returns-clause-most_first
returns-clause-most_first c = rw (first_read c) (first_small c)

pub returns-clause-most_second : goal.returns-clause-most_second
returns-clause-most_second c = rw (second_read c) (negative_small c.dot-2.result (second_small c))
