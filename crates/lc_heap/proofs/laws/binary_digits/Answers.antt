use Rattle.lc_heap.proofs.Digits.{bits_enough, bits_least}
use Rattle.lc_heap.proofs.laws.binary_digits.Goals as goal

pub returns-clause-enough : goal.returns-clause-enough
returns-clause-enough c = bits_enough

pub returns-clause-least : goal.returns-clause-least
returns-clause-least c = bits_least
