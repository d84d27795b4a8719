use Rattle.std.proofs.Common.{◌+◌, ap, sym, subst, refl, ◌∙◌}
use Rattle.std.specs.Prelude.{Option, Some, IsSome}
use Rattle.lc_geom.specs.declared.hit.Hit.{Hit}
use Rattle.lc_hier.specs.Seen.{IsFirstAmong}
use Rattle.lc_hier.proofs.Firsts.{row_hit, row_missed}
use Rattle.lc_hier.proofs.walk.nearest_among.Goals as goal
use Rattle.lc_hier.proofs.walk.nearest_among.Goals.{in-Some, in_default}

pub loop-place-preserved : goal.loop-place-preserved
loop-place-preserved c =
    let P : Option Hit → Type 0 = λ best. IsFirstAmong c.args.e c.args.d c.args.rows.now (c.loop-place.place + 1) best × (IsSome c.args.best → IsSome best) in
    elim c.match-depth.branch [
      | in-Some w ↦
          subst P (sym (w.best-is ∙ ap (λ h. Some h) w.earlier.ensures)) (
            row_hit c.args.e c.args.d c.args.rows.now c.loop-place.best c.loop-place.place c.row_at-row.result.now w.in-Some.depth c.row_at-row.ensures.row (sym c.depth.ensures.value ∙ w.in-Some.is) c.loop-place.invariant.0,
            λ _. refl,
          )
      | in_default w ↦
          subst P (sym w.best-is) (
            row_missed c.args.e c.args.d c.args.rows.now c.loop-place.best c.loop-place.place c.row_at-row.result.now c.row_at-row.ensures.row (sym c.depth.ensures.value ∙ w.in_default.is) c.loop-place.invariant.0,
            c.loop-place.invariant.1,
          )
    ]
