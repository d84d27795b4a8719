use Rattle.lc_scene_tests.proofs.cuts.ties.Given as goal

abbrev pub ghosts-best_of_lamps : goal.ghosts-best_of_lamps
ghosts-best_of_lamps g a = record { name = a.blank.name; parts = a.blank.parts }
