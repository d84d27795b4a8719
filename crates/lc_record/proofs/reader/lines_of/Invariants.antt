use Rattle.std.proofs.Common.{◌≡◌, length}
use Rattle.lc_record.specs.Reading.{BeginsWithLines}
use Rattle.lc_record.proofs.reader.lines_of.Given as goal

-- the lines so far, and what follows them
abbrev pub invariant-loop-before : goal.invariant-loop-before
invariant-loop-before l = record {
  begins : BeginsWithLines l.header l.lines l.rest l.bytes;
  count : length l.lines ≡ l.before;
}
