use Rattle.lc_num.proofs.PowerLemmas.{pow16-none, pow16-even, pow16-odd, pow16-rises, pow16-most}
use Rattle.lc_num.proofs.powers.powers_by_squares.Goals as goal

pub returns : goal.returns
returns c = record { none = pow16-none; even = pow16-even; odd = pow16-odd; rises = pow16-rises; most = pow16-most }
