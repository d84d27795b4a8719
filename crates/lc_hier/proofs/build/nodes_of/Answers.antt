use Rattle.std.proofs.Common.{arith, refl, length, ap, sym, subst, vec_len, ◌∙◌}
use Rattle.std.proofs.lemmas.List.Sorted.{length_permutation}
use Rattle.lc_hier.specs.Grown.{AreHeld}
use Rattle.lc_hier.proofs.Growing.{Laid, ended, laid_grown, laid_none, laid_same}
use Rattle.lc_hier.proofs.build.nodes_of.Goals as goal
use Rattle.lc_hier.proofs.build.nodes_of.Goals.{then-count-gt0+in_ok-grow, else-count-gt0}

pub returns-clause-hierarchy : goal.returns-clause-hierarchy
returns-clause-hierarchy c =
    λ rows are.
    let laid : Laid c.if-count-gt0.nodes.items rows (length c.if-count-gt0.items) =
    elim c.if-count-gt0.branch [
      | then-count-gt0+in_ok-grow w ↦
          let moved = length_permutation c.args.items.now w.grow.new.items w.in_ok-grow.ensures.permutation in
          laid_same w.grow.new.nodes.items c.if-count-gt0.nodes.items rows (length w.grow.new.items) (length c.if-count-gt0.items) (ap (λ v. v.items) w.nodes-is) (ap length w.items-is)
          (laid_grown w.grow.new.nodes.items rows (vec_len c.in_ok-nodes.nodes) 0 (length c.args.items.now) (length w.grow.new.items) w.in_ok-grow.field-0 c.in_ok-nodes.ensures.len refl (omega (arith, moved))
          w.in_ok-grow.ensures.starts (w.in_ok-grow.ensures.grown rows (subst (λ items. AreHeld items rows 0) w.items-is are.held)))
      | else-count-gt0 w ↦
          laid_none c.if-count-gt0.nodes.items rows (length c.if-count-gt0.items) (ap (λ v. v.items) w.nodes-is ∙ c.in_ok-nodes.ensures.items) (omega (arith, ap length w.items-is, w.if-count-gt0.false))
    ] in
    ended c.if-count-gt0.items c.if-count-gt0.nodes.items c.push.new.self.items rows _ c.in_ok-push.ensures.items (sym c.if-count-gt0.auto.items) (omega (arith, c.if-count-gt0.auto.items, c.requires)) are laid
