use Rattle.std.proofs.Common.{◌≡◌, ◌≤◌, ◌-◌, ◌++◌, ℕ, List, length}
use Rattle.std.specs.Io.KnownBytes.{Consumes}
use Rattle.lc_desk.proofs.streams.read_within.Given as goal

abbrev pub invariant-loop-count : goal.invariant-loop-count
invariant-loop-count g l = (length l.into.items ≤ l.limit) × ((done : List ℕ) × (l.into.items ≡ l.initial.into.items ++ done) × Consumes (g.F.Read.remaining l.initial.file) (g.F.Read.remaining l.file) done)

abbrev pub decreases-loop-count : goal.decreases-loop-count
decreases-loop-count g l = l.limit - length l.into.items
