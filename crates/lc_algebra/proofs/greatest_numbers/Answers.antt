use Rattle.lc_algebra.proofs.Greatest.{greatest_up_to-at_most, greatest_up_to-passes, greatest_up_to-greatest}
use Rattle.lc_algebra.proofs.greatest_numbers.Goals as goal

pub returns : goal.returns
returns c = record { within = greatest_up_to-at_most; passes = greatest_up_to-passes; greatest = greatest_up_to-greatest }
