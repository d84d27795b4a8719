use Rattle.std.proofs.Common.{arith}
use Rattle.lc_light.specs.declared.lights.Omni.{Omni}
use Rattle.lc_bound.specs.Omni.{IsClump, one}
use Rattle.lc_bound.specs.OmniLaws.{omni_laws}
use Rattle.bench_bound.proofs.inputs.pair.Goals as goal

pub returns : goal.returns
returns c =
    let first : Omni = record { place = c.args.a; power = c.args.power } in
    let second : Omni = record { place = c.args.b; power = c.args.power } in
    let p : IsClump (one first) = omni_laws.one_valid first (record { place = c.requires.a; power = c.requires.power }) in
    let q : IsClump (one second) = omni_laws.one_valid second (record { place = c.requires.b; power = c.requires.power }) in
    rw (c.join.ensures, c.one-first.ensures, c.one-second.ensures) (omni_laws.join_valid (one first) (one second) p q (omega arith))
