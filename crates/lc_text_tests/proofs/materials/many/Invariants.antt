use Rattle.lc_mtl.specs.Materials.{AreMaterials}
use Rattle.lc_text_tests.proofs.materials.many.Given as goal

abbrev pub invariant-loop-more : goal.invariant-loop-more
invariant-loop-more g l = AreMaterials l.materials.items
