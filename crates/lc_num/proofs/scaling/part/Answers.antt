use Rattle.lc_num.proofs.ScaledLemmas.{part_code}
use Rattle.lc_num.proofs.scaling.part.Goals as goal

pub returns-then-a-lt0 : goal.returns-then-a-lt0
returns-then-a-lt0 c =
    rw c.share-size.ensures.value
    (part_code c.args.l c.args.length c.unsigned_abs.result c.args.a c.ranges.a c.requires.l c.requires.length c.requires.a c.unsigned_abs.ensures.value c.if-a-lt0.true)
