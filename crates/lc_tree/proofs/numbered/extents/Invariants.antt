use Rattle.std.proofs.Common.{◌≡◌, take}
use Rattle.lc_num.specs.Vectors.{Within}
use Rattle.lc_tree.proofs.Extents.{greatest, least}
use Rattle.lc_tree.proofs.numbered.extents.Given as goal

abbrev pub invariant-loop-light : goal.invariant-loop-light
invariant-loop-light g l = record {
  least : l.least ≡ least l.initial.least (take l.light-index l.light-items);
  most : l.most ≡ greatest l.initial.least (take l.light-index l.light-items);
  least_within : Within 50_000_000 l.least;
  most_within : Within 50_000_000 l.most;
}
