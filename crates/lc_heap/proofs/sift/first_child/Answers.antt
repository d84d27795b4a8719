use Rattle.std.proofs.Common.{sym, arith}
use Rattle.lc_heap.proofs.Opening.{only_child, one_of_two}
use Rattle.lc_heap.proofs.sift.first_child.Goals as goal

pub returns-then-right-entries-clause-first : goal.returns-then-right-entries-clause-first
returns-then-right-entries-clause-first g c = only_child c.args.entries.now c.args.at (omega arith)

pub returns-clause-first : goal.returns-clause-first
returns-clause-first g c = one_of_two c.args.entries.now c.args.at _ _ (omega arith) c.index-entries-right.is c.index-entries-left.is c.comes_before.result c.from.result (sym c.comes_before.ensures) c.from.ensures
