-- The numbers of the kinds of fault. A missing keyword would be 5.
use Rattle.std.specs.Prelude.{ℕ}
use Rattle.lc_job.specs.declared.fault_kind.FaultKind.{FaultKind}
use Rattle.lc_job.specs.declared.fault_kind.FaultKind.TheVariants as kind

abbrev pub kind_number : FaultKind → ℕ
kind_number kind.Keyword = 1
kind_number kind.Repeated = 2
kind_number kind.Form = 3
kind_number kind.Range = 4
kind_number kind.NoView = 6
kind_number kind.SameNames = 7
kind_number kind.Utf8 = 8
