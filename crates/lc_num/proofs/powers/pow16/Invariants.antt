use Rattle.std.proofs.Common.{◌≡◌, ◌/◌, ◌<◌, ◌≤◌, ◌^◌}
use Rattle.lc_num.specs.Powers.{pow16}
use Rattle.lc_num.proofs.powers.pow16.Given as goal

-- the power of the leading digits of the exponent
abbrev pub invariant-loop-place : goal.invariant-loop-place
invariant-loop-place l = record { place : l.place < 32; most : l.power ≤ 65536; value : l.power ≡ pow16 l.c (l.e / 2 ^ l.place) }

abbrev pub decreases-loop-place : goal.decreases-loop-place
decreases-loop-place l = l.place
