use Rattle.std.proofs.Common.{◌+◌, length, length-set, sym, ◌∙◌, arith}
use Rattle.std.proofs.lemmas.List.Sorted.{IsPermutation-refl}
use Rattle.lc_heap.specs.declared.entry.Entry.{Entry}
use Rattle.lc_heap.proofs.Digits.{bits_half, bits_rise}
use Rattle.lc_heap.proofs.Opening.{moves, sinks_first, sinks_leaf, sinks_more, sinks_rest}
use Rattle.lc_heap.proofs.sift.sink.Goals as goal
use Rattle.lc_heap.proofs.sift.sink.Goals.{else-loop-at-test, then-loop-at-test+then-not-comes_before}

pub loop-at-init : goal.loop-at-init
loop-at-init g c = record {
  within = c.requires.some;
  moved = IsPermutation-refl _;
  sinking = sinks_first c.args.entries.now c.args.entry c.requires.heap;
  counted = omega arith;
  steps = omega (arith, bits_half 0 1 (omega arith) (omega arith));
}

pub loop-at-preserved : goal.loop-at-preserved
loop-at-preserved g c =
    let l = c.loop-at in
    let within = l.invariant.within in
    let child = c.first_child-child.ensures in
    let to = c.first_child-child.result in
    let below = c.index-entries-child.is in
    let left = child.left in
    let down = sym c.comes_before.ensures ∙ c.if-not-comes_before.false in
    let deeper = bits_half (l.at + 1) (to + 1) (omega arith) (omega arith) in
    record {
      within = omega (arith, length-set {A = Entry}, child.within);
      moved = moves l.entries c.args.entry _ l.at to below (omega arith) within child.within _ l.invariant.moved;
      sinking = sinks_more l.entries c.args.entry _ l.at to below (omega arith) within child.within left child.right down child.first l.invariant.sinking;
      counted = omega arith;
      steps = omega (arith, deeper);
    }

pub returns-clause-heap : goal.returns-clause-heap
returns-clause-heap g c =
    let l = c.loop-at in
    elim c.loop-at-test.branch [
      | else-loop-at-test w ↦ sinks_leaf l.entries c.args.entry l.at (let test = w.loop-at-test.false in omega arith) l.invariant.sinking
      | then-loop-at-test+then-not-comes_before w ↦
          let child = w.first_child-child.ensures in
          let left = child.left in
          sinks_rest l.entries c.args.entry _ l.at w.first_child-child.result w.index-entries-child.is (omega arith) l.invariant.within child.within left child.right (sym w.comes_before.ensures ∙ w.if-not-comes_before.true) child.first l.invariant.sinking
    ]

pub returns-clause-steps : goal.returns-clause-steps
returns-clause-steps g c =
    let l = c.loop-at in
    let within = l.invariant.within in
    let same = l.auto.entries in
    let deep = bits_rise (l.at + 1) (length c.args.entries.now) (omega arith) in
    elim c.loop-at-test.branch [
      | else-loop-at-test w ↦ omega (arith, deep)
      | then-loop-at-test+then-not-comes_before w ↦ let child = w.first_child-child.ensures in omega (arith, deep)
    ]
