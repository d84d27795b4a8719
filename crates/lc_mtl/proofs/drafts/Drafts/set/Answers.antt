use Rattle.lc_mtl.specs.Drafts.{set}
use Rattle.lc_mtl.proofs.DraftLemmas.{last_changes, none_changes}
use Rattle.lc_mtl.proofs.drafts.Drafts.set.Goals as goal
use Rattle.lc_mtl.proofs.drafts.Drafts.set.Goals.{in-Some, in_default}

pub returns : goal.returns
returns c =
    let held = c.self.inside in
    elim c.match-self.branch [
      | in-Some w ↦ rw w.self-inside-is (last_changes (set c.args.setting) held.done c.args.self.now held.last w.in-Some.material w.set.new.self c.self.view_is w.in-Some.is w.set.ensures)
      | in_default w ↦ rw w.self-inside-is (none_changes (set c.args.setting) held.done c.args.self.now held.last c.self.view_is w.in_default.is (c.self.invariant w.in_default.is))
    ]
