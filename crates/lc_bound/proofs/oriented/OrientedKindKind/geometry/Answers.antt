use Rattle.std.proofs.Common.{inl, arith}
use Rattle.lc_bound.specs.HullLaws.{within_more}
use Rattle.lc_bound.proofs.oriented.OrientedKindKind.geometry.Goals as goal

pub cos16-cosine-requires : goal.cos16-cosine-requires
cos16-cosine-requires c = inl (c.requires.light.normal, c.difference.ensures.within 50_100_000 50_000_000 c.requires.x c.requires.light.place)

pub short_square-requires : goal.short_square-requires
short_square-requires c = within_more 100_100_000 1_073_741_824 _ (omega arith) (c.difference-2.ensures.within 50_000_000 50_100_000 c.requires.light.place c.requires.x)
