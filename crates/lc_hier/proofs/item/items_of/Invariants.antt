use Rattle.std.proofs.Common.{◌≡◌, map, All}
use Rattle.std.specs.List.{range_with_len}
use Rattle.lc_hier.specs.Grown.{IsItem}
use Rattle.lc_hier.proofs.item.items_of.Given as goal

abbrev pub invariant-loop-number : goal.invariant-loop-number
invariant-loop-number l = record {
  numbers : map (λ item. item.number) l.items.items ≡ range_with_len 0 l.number;
  held : All (IsItem l.list) l.items.items;
}
