use Rattle.lc_rated.proofs.CutSequence.{fraction}
use Rattle.lc_cut.specs.Forest.{trees_of}
use Rattle.lc_cut.proofs.Whole.{answer_near}
use Rattle.lc_cut.proofs.laws.distance_to_all_lights.Goals as goal

pub returns-clause-near : goal.returns-clause-near
returns-clause-near c = λ size permille ts spot r forest hs h. answer_near ts spot hs r forest h size permille

pub returns-clause-fraction : goal.returns-clause-fraction
returns-clause-fraction c = λ size permille ts spot r forest least. fraction size permille (trees_of ts spot r forest) least
