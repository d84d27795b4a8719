use Rattle.std.proofs.Common.{◌≡◌, length}
use Rattle.lc_scan.specs.LineTests.{first_kind}
use Rattle.lc_obj.specs.ObjLine.{corners_tests}
use Rattle.lc_obj.proofs.faces.test_corners.Given as goal

abbrev pub invariant-loop-value : goal.invariant-loop-value
invariant-loop-value l = first_kind (corners_tests l.given l.fn.values) ≡ first_kind (corners_tests l.given l.values)

abbrev pub decreases-loop-value : goal.decreases-loop-value
decreases-loop-value l = length l.values
