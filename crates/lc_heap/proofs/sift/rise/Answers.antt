use Rattle.std.proofs.Common.{◌-◌, ◌/◌, length, length-set, sym, ◌∙◌, arith}
use Rattle.std.proofs.lemmas.List.Sorted.{IsPermutation-refl}
use Rattle.lc_heap.specs.declared.entry.Entry.{Entry}
use Rattle.lc_heap.proofs.Digits.{bits_half}
use Rattle.lc_heap.proofs.Opening.{moves, rises_first, rises_more, rises_rest, rises_top}
use Rattle.lc_heap.proofs.sift.rise.Goals as goal
use Rattle.lc_heap.proofs.sift.rise.Goals.{else-loop-at-test, then-loop-at-test+then-not-comes_before}

pub loop-at-init : goal.loop-at-init
loop-at-init g c =
    let some = c.requires.some in
    record {
      within = omega arith;
      moved = IsPermutation-refl _;
      rising = rises_first c.args.entries.now c.args.entry (length c.args.entries.now - 1) (omega arith) c.requires.heap;
      counted = omega arith;
      steps = omega arith;
    }

pub loop-at-preserved : goal.loop-at-preserved
loop-at-preserved g c =
    let l = c.loop-at in
    let within = l.invariant.within in
    let some = c.loop-at-test.true in
    let q = (l.at - 1) / 2 in
    let above = c.index-entries-parent.is in
    let up = sym c.comes_before.ensures ∙ c.if-not-comes_before.false in
    record {
      within = omega (arith, length-set {A = Entry});
      moved = moves l.entries c.args.entry _ l.at q above (omega arith) within (omega arith) _ l.invariant.moved;
      rising = rises_more l.entries c.args.entry _ l.at q above (omega arith) within (omega arith) (omega arith) (omega arith) up l.invariant.rising;
      counted = omega arith;
      steps = omega (arith, bits_half q l.at (omega arith) some);
    }

pub returns-clause-heap : goal.returns-clause-heap
returns-clause-heap g c =
    let l = c.loop-at in
    let within = l.invariant.within in
    elim c.loop-at-test.branch [
      | else-loop-at-test w ↦ rises_top l.entries c.args.entry l.at (omega arith) l.invariant.rising
      | then-loop-at-test+then-not-comes_before w ↦
          let some = w.loop-at-test.true in
          rises_rest l.entries c.args.entry _ l.at ((l.at - 1) / 2) w.index-entries-parent.is (omega arith) within (omega arith) (omega arith) (omega arith) (sym w.comes_before.ensures ∙ w.if-not-comes_before.true) l.invariant.rising
    ]

pub returns-clause-steps : goal.returns-clause-steps
returns-clause-steps g c =
    let l = c.loop-at in
    elim c.loop-at-test.branch [
      | else-loop-at-test w ↦ omega arith
      | then-loop-at-test+then-not-comes_before w ↦ let some = w.loop-at-test.true in omega (arith, bits_half 0 l.at (omega arith) some)
    ]
