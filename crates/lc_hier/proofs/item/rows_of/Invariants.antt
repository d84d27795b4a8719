use Rattle.std.proofs.Common.{◌≡◌, map, take}
use Rattle.lc_hier.specs.Grown.{row_of}
use Rattle.lc_hier.proofs.item.rows_of.Given as goal

abbrev pub invariant-loop-item : goal.invariant-loop-item
invariant-loop-item l = l.rows.items ≡ map (row_of l.list) (take l.item-index l.items)
