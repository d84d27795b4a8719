use Rattle.std.proofs.Math.Nat.{div-le_self}
use Rattle.bench_hier.proofs.room.part.Goals as goal

pub returns : goal.returns
returns c = div-le_self c.args.whole c.args.parts
