use Rattle.lc_mtl.specs.Materials.{AreMaterials}
use Rattle.lc_text_tests.proofs.materials.libraries_follow_each_other.Given as goal

abbrev pub invariant-loop-text : goal.invariant-loop-text
invariant-loop-text g l = AreMaterials l.materials.items
