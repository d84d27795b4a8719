use Rattle.std.proofs.Common.{◌∙◌, refl}
use Rattle.std.proofs.lemmas.Result.{err_from_is_err_and, on_ok_weaker, MatchResult-weaker}
use Rattle.lc_desk.specs.declared.desk.Slot.TheVariants.{Picture}
use Rattle.lc_record.specs.Record as record_of
use Rattle.lc_frame.specs.Frames.{header_of}
use Rattle.lc_desk.proofs.CallLemmas.{open_made}
use Rattle.lc_frame.proofs.StartLemmas.{opening_broke_first, opening_broke_then, opening_made}
use Rattle.lc_frame.proofs.render.open.Goals as goal

pub returns-clause-made : goal.returns-clause-made
returns-clause-made g c =
    on_ok_weaker c.start-2.result
    (opening_made c.args.job.now _ _ _ _ c.as_str.ensures (c.as_slice.ensures ∙ c.requires.picture) c.as_str-2.ensures (c.as_slice-2.ensures ∙ c.requires.record) _ _ _ c.in_ok-start.ensures.made)
    c.start-2.ensures.made

pub returns-clause-picture : goal.returns-clause-picture
returns-clause-picture g c = on_ok_weaker c.start-2.result (λ made. open_made _ Picture _ _ made c.in_ok-start.ensures.open) c.start-2.ensures.made

pub returns-clause-bounds : goal.returns-clause-bounds
returns-clause-bounds g c = c.start-2.ensures.open

pub returns-clause-broke : goal.returns-clause-broke
returns-clause-broke g c =
    MatchResult-weaker c.start-2.result c.start-2.ensures.broke (λ x t. t)
    (λ stop. opening_broke_then c.args.job.now _ _ _ _ c.as_str.ensures (c.as_slice.ensures ∙ c.requires.picture) c.as_str-2.ensures (c.as_slice-2.ensures ∙ c.requires.record) stop _ _ _ c.in_ok-start.ensures.made)

pub returns-in_err-start-clause-broke : goal.returns-in_err-start-clause-broke
returns-in_err-start-clause-broke g c =
    let p = err_from_is_err_and c.from_residual.result c.from_residual.ensures.1 in
    rw (p.1, p.2) (opening_broke_first c.args.job.now _ _ c.args.job.now.bounds (record_of.record_header (header_of c.args.job.now)) c.as_str.ensures (c.as_slice.ensures ∙ c.requires.picture) refl refl _ _ _ c.in_err-start.ensures.broke)
