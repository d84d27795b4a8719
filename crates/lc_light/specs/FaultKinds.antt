-- The numbers of the kinds of fault.
use Rattle.std.specs.Prelude.{ℕ}
use Rattle.lc_light.specs.declared.fault_kind.FaultKind.{FaultKind}
use Rattle.lc_light.specs.declared.fault_kind.FaultKind.TheVariants as kind

abbrev pub kind_number : FaultKind → ℕ
kind_number kind.Keyword = 1
kind_number kind.Number = 2
kind_number kind.FieldCount = 3
kind_number kind.Range = 4
kind_number kind.Negative = 5
kind_number kind.NoDirection = 6
kind_number kind.NoArea = 7
kind_number kind.SampleCount = 8
kind_number kind.TooMany = 9
