-- The numbers of the kinds of fault.
use Rattle.std.specs.Prelude.{ℕ}
use Rattle.lc_mtl.specs.declared.fault_kind.FaultKind.{FaultKind}
use Rattle.lc_mtl.specs.declared.fault_kind.FaultKind.TheVariants as kind

abbrev pub kind_number : FaultKind → ℕ
kind_number kind.Number = 1
kind_number kind.Negative = 2
kind_number kind.NoMaterial = 3
kind_number kind.Colour = 4
kind_number kind.TooMany = 5
kind_number kind.Name = 6
