use Rattle.std.proofs.Common.{◌≡◌, rules}
use Rattle.std.proofs.lemmas.Fn.{always_returns_same}
use Rattle.lc_tree.specs.Extents.{coordinate}
use Rattle.lc_tree.proofs.numbered.sort_along.Goals as goal

pub returns-clause-sorted : goal.returns-clause-sorted
returns-clause-sorted g c =
    c.sort_unstable_by_key.ensures.sorted (λ e. (coordinate c.args.axis e.place, e.number))
    (always_returns_same _ (λ a r. r ≡ (coordinate c.args.axis a.0.now.place, a.0.now.number)) _ (λ a r q k. search rules))
