use Rattle.std.proofs.Common.{◌≡◌, take, vec_len}
use Rattle.lc_tree.specs.Build.{numbered}
use Rattle.lc_tree.proofs.build.numbered.Given as goal

abbrev pub invariant-loop-number : goal.invariant-loop-number
invariant-loop-number g l = record {
  order : l.order.items ≡ take l.number (numbered g.K.Kind.meaning l.lights);
  len : vec_len l.order ≡ l.number;
}
