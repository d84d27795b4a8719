use Rattle.lc_heap.proofs.OrderLaws.{total, one_way, itself, chain}
use Rattle.lc_heap.proofs.laws.entries_in_order.Goals as goal

pub returns-clause-total : goal.returns-clause-total
returns-clause-total c = total

pub returns-clause-one_way : goal.returns-clause-one_way
returns-clause-one_way c = one_way

pub returns-clause-itself : goal.returns-clause-itself
returns-clause-itself c = itself

pub returns-clause-chain : goal.returns-clause-chain
returns-clause-chain c = chain
