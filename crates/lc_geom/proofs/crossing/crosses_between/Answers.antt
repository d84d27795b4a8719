use Rattle.std.proofs.Common.{◌≡◌, ◌∙◌, ap₂, Bool, true, false, ℤ}
use Rattle.std.specs.Prelude.{◌&&◌}
use Rattle.lc_geom.specs.Crossing.{are_opposite, crosses}
use Rattle.lc_geom.proofs.CrossingCode.{read_short}
use Rattle.lc_geom.proofs.crossing.crosses_between.Goals as goal

opposite : (s r x y : ℤ) (b : Bool) → b ≡ are_opposite s r → s ≡ x → r ≡ y → b ≡ are_opposite x y
opposite s r x y b e f g = e ∙ ap₂ (λ u v. are_opposite u v) f g

both : (a b x y : Bool) → a ≡ true → a ≡ x → b ≡ y → b ≡ (x && y)
both a b true y e f g = g
both a b false y e f g = cc

neither : (a x y : Bool) → a ≡ false → a ≡ x → a ≡ (x && y)
neither a true y e f = cc
neither a false y e f = e

pub returns-then-are_opposite : goal.returns-then-are_opposite
unfolding crosses
returns-then-are_opposite c =
    both _ _ _ _ c.if-are_opposite.true
    (opposite _ _ _ _ _ c.are_opposite.ensures (read_short c.args.start c.requires.most_start ∙ c.requires.start) (read_short c.args.end c.requires.most_end ∙ c.requires.end))
    c.passes_within.ensures

pub returns-else-are_opposite : goal.returns-else-are_opposite
unfolding crosses
returns-else-are_opposite c =
    neither _ _ _ c.if-are_opposite.false
    (opposite _ _ _ _ _ c.are_opposite.ensures (read_short c.args.start c.requires.most_start ∙ c.requires.start) (read_short c.args.end c.requires.most_end ∙ c.requires.end))
