use Rattle.std.proofs.Common.{◌*◌, ◌^◌, arith}
use Rattle.std.proofs.lemmas.Nat.{mul-le}
use Rattle.lc_sample.proofs.plain.contribution.Goals as goal

pub by_power-requires-clause-power : goal.by_power-requires-clause-power
by_power-requires-clause-power g c =
    let within = c.power_of.ensures.within in
    record { r = omega (arith, within.r); g = omega (arith, within.g); b = omega (arith, within.b) }

pub returns-clause-small : goal.returns-clause-small
returns-clause-small g c =
    let small = c.factor_of-factor.ensures.small in
    let within = c.power_of.ensures.within in
    rw c.by_power.ensures
    (record {
      r = mul-le _ _ (20_000 * 65_536 * 10 ^ 13) (10 ^ 8) small.r within.r;
      g = mul-le _ _ (20_000 * 65_536 * 10 ^ 13) (10 ^ 8) small.g within.g;
      b = mul-le _ _ (20_000 * 65_536 * 10 ^ 13) (10 ^ 8) small.b within.b;
    })
