use Rattle.std.proofs.Common.{◌≡◌, ◌++◌, flat_map}
use Rattle.lc_make.specs.Made.{below, box_bytes, floor_bytes}
use Rattle.lc_make.proofs.boxes.obj_text.Given as goal

abbrev pub invariant-loop-k : goal.invariant-loop-k
invariant-loop-k l = l.obj ≡ floor_bytes ++ flat_map box_bytes (below l.k)
