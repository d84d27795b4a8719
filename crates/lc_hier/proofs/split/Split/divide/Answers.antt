use Rattle.std.proofs.Common.{arith, ◌∙◌}
use Rattle.std.proofs.lemmas.List.Sorted.{IsPermutation-trans}
use Rattle.lc_hier.proofs.split.Split.divide.Goals as goal

pub loop-first-preserved : goal.loop-first-preserved
loop-first-preserved c = record {
  moved = IsPermutation-trans c.args.items.now c.loop-first.items c.swap.new.self c.loop-first.invariant.moved c.swap.ensures.permutation;
  ordered = omega (arith, c.loop-first-test.true);
  within = omega (arith, c.swap.ensures.len, c.loop-first.invariant.within);
  same = c.swap.ensures.len ∙ c.loop-first.invariant.same;
}
