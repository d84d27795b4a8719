use Rattle.std.proofs.Common.{◌+◌, ◌≤◌, arith}
use Rattle.lc_bound.specs.SunLaws.{sun_laws}
use Rattle.lc_scene_tests.proofs.suns.of_two.Goals as goal

pub returns : goal.returns
returns c =
    let few : c.of_one.result.count + c.of_one-2.result.count ≤ 65_536 = rw (c.of_one.ensures.value, c.of_one-2.ensures.value) (omega arith) in
    rw c.join.ensures (sun_laws.join_valid c.of_one.result c.of_one-2.result c.of_one.ensures.clump c.of_one-2.ensures.clump few)
