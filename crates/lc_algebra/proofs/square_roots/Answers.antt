use Rattle.lc_algebra.proofs.Roots.{isqrt-low, isqrt-high, isqrt-only, isqrt-rises}
use Rattle.lc_algebra.proofs.square_roots.Goals as goal

pub returns : goal.returns
returns c = record { low = isqrt-low; high = isqrt-high; only = isqrt-only; rises = isqrt-rises }
