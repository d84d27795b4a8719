use Rattle.lc_num_tests.proofs.heaps.many_entries.Given as goal

abbrev pub ghosts-many : goal.ghosts-many
ghosts-many g a = record { name = a.blank.name; parts = a.blank.parts }
