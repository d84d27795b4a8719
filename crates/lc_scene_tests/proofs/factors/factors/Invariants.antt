use Rattle.lc_scene_tests.proofs.factors.factors.Given as goal

abbrev pub ghosts-factor_of_dark : goal.ghosts-factor_of_dark
ghosts-factor_of_dark g a = record { name = a.blank.name; parts = a.blank.parts }
