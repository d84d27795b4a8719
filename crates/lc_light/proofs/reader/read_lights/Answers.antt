use Rattle.std.proofs.Common.{ℕ, ◌+◌, ap, subst, sym}
use Rattle.lc_light.proofs.ValidLights.{lights_valid}
use Rattle.lc_light.specs.Lights.{AreLights}
use Rattle.lc_scan.specs.Lines.{line}
use Rattle.lc_light.proofs.ReadLemmas.{start, takes, stops, ends}
use Rattle.lc_light.proofs.reader.read_lights.Goals as goal

pub loop-number-init : goal.loop-number-init
loop-number-init c =
    start c.args.bytes.now c.args.seed c.new-lines.result c.new.result c.new-2.result c.new-3.result c.new-words.result c.new-lines.ensures c.new.ensures c.new-2.ensures c.new-3.ensures c.new-words.ensures

pub loop-number-preserved : goal.loop-number-preserved
loop-number-preserved c =
    let at = c.loop-number in
    let add = c.in_ok-add-in-Ok.ensures in
    takes c.args.bytes.now c.args.seed (line c.in-Some.number c.in-Some.line.now) at.lines c.next_spoken.new.lines at.lights c.add.new.lights at.words c.add.new.words at.so_far _ c.in-Ok.source c.in-Some.ensures.next
    (record { kind = c.in-Ok.ensures.value.0; source = c.in-Ok.ensures.value.1; room = c.in-Ok.ensures.room }) (record { omni = add.omni; oriented = add.oriented; sun = add.sun; taken = add.words }) (ap (λ (n : ℕ). at.so_far + n) c.count-so_far.ensures) at.invariant

pub returns-in-Err-clause-fault : goal.returns-in-Err-clause-fault
returns-in-Err-clause-fault c =
    let at = c.loop-number in
    stops c.args.bytes.now c.args.seed (line c.in-Some.number c.in-Some.line.now) at.lines c.next_spoken.new.lines at.lights at.words at.so_far c.number.result c.in-Err.kind c.in-Some.ensures.next c.in-Err.ensures.value c.number.ensures at.invariant

pub returns-clause-ok : goal.returns-clause-ok
returns-clause-ok c = ends c.args.bytes.now c.args.seed c.loop-number.lines c.loop-number.lights c.loop-number.words c.loop-number.so_far c.in_default.ensures.next c.loop-number.invariant

pub returns-clause-valid : goal.returns-clause-valid
returns-clause-valid c =
    let both = returns-clause-ok c in
    subst AreLights (sym both.1) (lights_valid c.args.bytes.now c.args.seed both.0)
