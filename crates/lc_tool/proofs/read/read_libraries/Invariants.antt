use Rattle.lc_mtl.specs.Materials.{AreMaterials}
use Rattle.lc_tool.proofs.Libraries.{ReadSome}
use Rattle.lc_tool.proofs.read.read_libraries.Given as goal

abbrev pub invariant-loop-library : goal.invariant-loop-library
invariant-loop-library g l = record {
  went : ReadSome l.scene l.libraries l.library-index l.materials.items (g.D.Desk.state l.fn.desk) (g.D.Desk.state l.desk);
  valid : AreMaterials l.materials.items;
}
