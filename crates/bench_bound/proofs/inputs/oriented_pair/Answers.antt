use Rattle.std.proofs.Common.{arith}
use Rattle.lc_bound.specs.Oriented.{IsClump, one}
use Rattle.lc_bound.specs.OrientedLaws.{oriented_laws}
use Rattle.bench_bound.proofs.inputs.oriented_pair.Goals as goal

pub returns : goal.returns
returns c =
    let p : IsClump (one c.args.a.now) = oriented_laws.one_valid c.args.a.now c.requires.a in
    let q : IsClump (one c.args.b.now) = oriented_laws.one_valid c.args.b.now c.requires.b in
    rw (c.join.ensures, c.one.ensures, c.one-2.ensures) (oriented_laws.join_valid (one c.args.a.now) (one c.args.b.now) p q (omega arith))

pub join-requires-clause-a : goal.join-requires-clause-a
join-requires-clause-a c = rw c.one.ensures (oriented_laws.one_valid c.args.a.now c.requires.a)

pub join-requires-clause-b : goal.join-requires-clause-b
join-requires-clause-b c = rw c.one-2.ensures (oriented_laws.one_valid c.args.b.now c.requires.b)
