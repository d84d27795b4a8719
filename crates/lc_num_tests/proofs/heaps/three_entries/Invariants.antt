use Rattle.lc_num_tests.proofs.heaps.three_entries.Given as goal

abbrev pub ghosts-three : goal.ghosts-three
ghosts-three g a = record { name = a.blank.name; parts = a.blank.parts }
