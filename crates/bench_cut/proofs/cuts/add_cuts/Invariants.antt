use Rattle.std.proofs.Common.{◌≡◌}
use Rattle.bench_cut.proofs.cuts.add_cuts.Given as goal

abbrev pub invariant-loop : goal.invariant-loop
invariant-loop l = l.bench ≡ l.initial.bench

abbrev pub ghosts-add_cut : goal.ghosts-add_cut
ghosts-add_cut a = record { name = a.blank.name; parts = a.blank.parts }
