use Rattle.std.proofs.Common.{ap, sym, ◌∙◌, arith}
use Rattle.std.specs.Int.{div_ceil}
use Rattle.lc_audit.specs.Verdicts.{fails, looked_at, places_of}
use Rattle.lc_audit.proofs.Finding.{first_at, none_all, none_more}
use Rattle.lc_audit.proofs.Promises.{told, untold, verdict_no, verdict_yes}
use Rattle.lc_audit.proofs.SampleLemmas.{looked-length}
use Rattle.lc_audit.proofs.auditing.audit.Goals as goal

pub loop-turn-preserved : goal.loop-turn-preserved
loop-turn-preserved c =
    none_more places_of (fails c.args.job.now.cut c.args.job.now.permille)
    (looked_at c.args.scene.now c.args.job.now c.args.kept.now.lines c.args.step) c.loop-turn.turn c.look-sample.result
    c.look-sample.ensures.value c.loop-turn.invariant (untold _ c.in_default.ensures)

pub returns-in-Some : goal.returns-in-Some
returns-in-Some c =
    let t = told _ c.in-Some.miss c.in-Some.ensures in
    verdict_no c.args.scene.now c.args.job.now c.args.kept.now.lines c.args.step t.0 c.in-Some.miss
    (first_at places_of (fails c.args.job.now.cut c.args.job.now.permille)
    (looked_at c.args.scene.now c.args.job.now c.args.kept.now.lines c.args.step) c.loop-turn.turn c.look-sample.result t.0
    c.look-sample.ensures.value c.loop-turn.invariant t.1)
    t.2

pub returns : goal.returns
returns c =
    let n =
    looked-length c.args.scene.now c.args.job.now c.args.kept.now.lines c.args.step c.requires.step c.requires.whole
    in
    let same = ap (λ n. div_ceil n c.args.step) c.len.ensures in
    verdict_yes c.args.scene.now c.args.job.now c.args.kept.now.lines c.args.step c.div_ceil-looks.result
    (none_all places_of (fails c.args.job.now.cut c.args.job.now.permille)
    (looked_at c.args.scene.now c.args.job.now c.args.kept.now.lines c.args.step) c.loop-turn.turn
    (omega (arith, n, same, c.div_ceil-looks.ensures, c.loop-turn-test.false)) c.loop-turn.invariant)
    (n ∙ sym (c.div_ceil-looks.ensures ∙ same))
