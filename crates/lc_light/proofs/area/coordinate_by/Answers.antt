use Rattle.std.proofs.Common.{◌%◌, ◌/◌, ◌≤◌, ◌≡◌, unsigned_abs, arith}
use Rattle.std.proofs.lemmas.Int.{ints}
use Rattle.lc_light.specs.Areas.{part}
use Rattle.lc_light.proofs.AreaLemmas.{part_short, read_part, lower_bits, upper_bits}
use Rattle.lc_light.proofs.area.coordinate_by.Goals as goal

pub overflow_add-result-2 : goal.overflow_add-result-2
overflow_add-result-2 c =
    let e : c.part.result ≡ part c.args.along (c.args.word % 65536) = read_part c.args.along c.part.result (c.args.word % 65536) c.ranges.along c.part.ensures in
    let f : c.part-2.result ≡ part c.args.across (c.args.word / 65536) = read_part c.args.across c.part-2.result (c.args.word / 65536) c.ranges.across c.part-2.ensures in
    let x : unsigned_abs c.part.result ≤ 100_000_000 = rw e (part_short c.args.along (c.args.word % 65536) c.requires.along (lower_bits c.args.word)) in
    let y : unsigned_abs c.part-2.result ≤ 100_000_000 = rw f (part_short c.args.across (c.args.word / 65536) c.requires.across (upper_bits c.args.word c.ranges.word.fits)) in
    omega (arith, ints)

pub returns : goal.returns
returns c =
    let e : c.part.result ≡ part c.args.along (c.args.word % 65536) = read_part c.args.along c.part.result (c.args.word % 65536) c.ranges.along c.part.ensures in
    let f : c.part-2.result ≡ part c.args.across (c.args.word / 65536) = read_part c.args.across c.part-2.result (c.args.word / 65536) c.ranges.across c.part-2.ensures in
    let x : unsigned_abs c.part.result ≤ 100_000_000 = rw e (part_short c.args.along (c.args.word % 65536) c.requires.along (lower_bits c.args.word)) in
    let y : unsigned_abs c.part-2.result ≤ 100_000_000 = rw f (part_short c.args.across (c.args.word / 65536) c.requires.across (upper_bits c.args.word c.ranges.word.fits)) in
    omega (arith, ints)
