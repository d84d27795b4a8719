-- The numbers of the kinds of fault.
use Rattle.std.specs.Prelude.{ℕ}
use Rattle.lc_obj.specs.declared.fault_kind.FaultKind.{FaultKind}
use Rattle.lc_obj.specs.declared.fault_kind.FaultKind.TheVariants as kind

abbrev pub kind_number : FaultKind → ℕ
kind_number kind.Number = 1
kind_number kind.Words = 2
kind_number kind.IndexZero = 3
kind_number kind.Index = 4
kind_number kind.Face = 5
kind_number kind.FreeForm = 6
kind_number kind.Vertices = 7
kind_number kind.Triangles = 8
kind_number kind.Utf8 = 9
