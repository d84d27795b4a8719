use Rattle.std.proofs.Common.{sym, ◌∙◌}
use Rattle.std.proofs.lemmas.Result.{err_from_is_err_and}
use Rattle.lc_light.proofs.SourceLemmas.{HasArea, area_value, area_corners, area_flat, area_passes}
use Rattle.lc_light.proofs.AreaLemmas.{corners_within, side_short}
use Rattle.lc_light.proofs.line.area.Goals as goal

pub returns-in_err-area : goal.returns-in_err-area
returns-in_err-area c =
    let p = err_from_is_err_and c.from_residual.result c.from_residual.ensures.1 in
    rw (p.1, p.2) (area_value c.args.values.now _ c.in_err-area.ensures.value)

pub returns-then-not-has_places : goal.returns-then-not-has_places
returns-then-not-has_places c =
    let h : HasArea c.args.values.now c.in_ok-area.area = record { tests = c.in_ok-area.ensures.value.0; area = c.in_ok-area.ensures.value.1 } in
    area_corners c.args.values.now c.in_ok-area.area h (sym c.has_places.ensures ∙ c.if-not-has_places.true)

pub spans-requires-clause-along : goal.spans-requires-clause-along
spans-requires-clause-along c =
    let corner = c.in_ok-area.ensures.range.0 in
    side_short c.in_ok-area.area.corner c.in_ok-area.area.along corner (corners_within c.in_ok-area.area (sym c.has_places.ensures ∙ c.if-not-has_places.false)).along_end

pub spans-requires-clause-across : goal.spans-requires-clause-across
spans-requires-clause-across c =
    let corner = c.in_ok-area.ensures.range.0 in
    side_short c.in_ok-area.area.corner c.in_ok-area.area.across corner (corners_within c.in_ok-area.area (sym c.has_places.ensures ∙ c.if-not-has_places.false)).across_end

pub returns-then-not-spans : goal.returns-then-not-spans
returns-then-not-spans c =
    let h : HasArea c.args.values.now c.in_ok-area.area = record { tests = c.in_ok-area.ensures.value.0; area = c.in_ok-area.ensures.value.1 } in
    area_flat c.args.values.now c.in_ok-area.area h (sym c.has_places.ensures ∙ c.if-not-has_places.false) (sym c.spans.ensures ∙ c.if-not-spans.true)

pub returns : goal.returns
returns c =
    let h : HasArea c.args.values.now c.in_ok-area.area = record { tests = c.in_ok-area.ensures.value.0; area = c.in_ok-area.ensures.value.1 } in
    (area_passes c.args.values.now c.in_ok-area.area h (sym c.has_places.ensures ∙ c.if-not-has_places.false) (sym c.spans.ensures ∙ c.if-not-spans.false), c.in_ok-area.ensures.value.1)
