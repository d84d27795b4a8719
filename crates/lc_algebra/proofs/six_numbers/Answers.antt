use Rattle.lc_algebra.proofs.SixNumbers.{lagrange, cauchy_schwarz}
use Rattle.lc_algebra.proofs.six_numbers.Goals as goal

pub returns : goal.returns
returns c = record { lagrange = lagrange; cauchy_schwarz = cauchy_schwarz }
