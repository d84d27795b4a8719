use Rattle.std.proofs.Common.{rules, arith, ◌+◌, ◌^◌}
use Rattle.std.proofs.lemmas.Int.{ints}
use Rattle.lc_hier.proofs.SlabLaws.{serves_read}
use Rattle.lc_hier.proofs.beam.Beam.toward.Goals as goal

pub invariant_of-result : goal.invariant_of-result
invariant_of-result c = record {
  most_small = omega arith;
  shift_small = omega arith;
  last_is = omega (arith, ints, c.last_of.ensures);
  x_serves = serves_read (2 ^ (30 + c.shift_of-shift.result)) c.args.p.x c.args.q.x c.new.result (search rules) (search rules) c.new.ensures;
  y_serves = serves_read (2 ^ (30 + c.shift_of-shift.result)) c.args.p.y c.args.q.y c.new-2.result (search rules) (search rules) c.new-2.ensures;
  z_serves = serves_read (2 ^ (30 + c.shift_of-shift.result)) c.args.p.z c.args.q.z c.new-3.result (search rules) (search rules) c.new-3.ensures;
}
