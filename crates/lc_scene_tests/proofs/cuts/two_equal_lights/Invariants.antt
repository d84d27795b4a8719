use Rattle.lc_scene_tests.proofs.cuts.two_equal_lights.Given as goal

abbrev pub ghosts-best_of_pair : goal.ghosts-best_of_pair
ghosts-best_of_pair g a = record { name = a.blank.name; parts = a.blank.parts }
