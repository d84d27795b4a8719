use Rattle.std.proofs.Common.{arith, sym, ap, ◌∙◌}
use Rattle.lc_num.specs.declared.vectors.Vec3.{Vec3}
use Rattle.std.proofs.lemmas.Bool.{lt-ltb, le-ltb}
use Rattle.std.proofs.lemmas.Result.{err_from_is_err_and}
use Rattle.lc_light.specs.declared.keyword.Keyword.TheVariants as keyword
use Rattle.lc_light.proofs.SourceLemmas.{HasVector, wrong_vector, sun_power, sun_zero, sun_passes, sun_is}
use Rattle.lc_light.proofs.line.sun.Goals as goal

pub returns-in_err-direction : goal.returns-in_err-direction
returns-in_err-direction c =
    let p = err_from_is_err_and c.from_residual.result c.from_residual.ensures.1 in
    rw (p.1, p.2) (wrong_vector keyword.Sun c.args.values.now _ c.in_err-direction.ensures.value)

pub returns-in_err-power : goal.returns-in_err-power
returns-in_err-power c =
    let p = err_from_is_err_and c.from_residual-in_err-power.result c.from_residual-in_err-power.ensures.1 in
    let h : HasVector c.args.values.now c.vector.new.values = record { vector = c.in_ok-direction.ensures.value.0; rest_is = c.in_ok-direction.ensures.rest } in
    rw (p.1, p.2) (sun_power c.args.values.now c.vector.new.values _ h c.in_err-power.ensures.value)

pub returns-then-square-eq0 : goal.returns-then-square-eq0
returns-then-square-eq0 c =
    let h : HasVector c.args.values.now c.vector.new.values = record { vector = c.in_ok-direction.ensures.value.0; rest_is = c.in_ok-direction.ensures.rest } in
    sun_zero c.args.values.now c.vector.new.values c.in_ok-direction.direction h c.in_ok-power.ensures.value.0 c.in_ok-direction.ensures.value.1 (le-ltb 0 _ (omega arith))

pub returns : goal.returns
returns c =
    let h : HasVector c.args.values.now c.vector.new.values = record { vector = c.in_ok-direction.ensures.value.0; rest_is = c.in_ok-direction.ensures.rest } in (
      sun_passes c.args.values.now c.vector.new.values c.in_ok-direction.direction h c.in_ok-power.ensures.value.0 c.in_ok-direction.ensures.value.1 (lt-ltb 0 _ (omega arith)),
      sun_is c.args.values.now c.vector.new.values c.in_ok-direction.direction c.in_ok-power.power c.in_ok-direction.ensures.rest c.in_ok-direction.ensures.value.1 c.in_ok-power.ensures.value.1
          ∙ ap (λ (v : Vec3). record { toward = v; power = c.in_ok-power.power }) (sym c.scaled.ensures.value),
    )
