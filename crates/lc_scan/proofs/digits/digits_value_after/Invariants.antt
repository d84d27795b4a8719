use Rattle.std.proofs.Common.{◌≡◌, ◌+◌, ◌^◌, ◌<◌, take}
use Rattle.std.specs.Str.Parse.{digits_value_after}
use Rattle.lc_scan.proofs.digits.digits_value_after.Given as goal

abbrev pub invariant-loop-d : goal.invariant-loop-d
invariant-loop-d l =
    (l.value ≡ digits_value_after 10 l.number (take l.d-index l.digits)) × (l.value < 10 ^ (l.before + l.d-index))
