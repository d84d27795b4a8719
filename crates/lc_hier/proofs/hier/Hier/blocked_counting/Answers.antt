use Rattle.std.proofs.Common.{◌≡◌, ◌+◌, ◌≤◌, List, length, arith, subst, sym, ap, ◌∙◌}
use Rattle.std.specs.Prelude.{if◌then◌else◌, nat_lt, IfNone, IfSome}
use Rattle.std.proofs.lemmas.Bool.{both_ways}
use Rattle.std.proofs.lemmas.Option.{slice_get_within}
use Rattle.lc_hier.specs.declared.node.Row.{Row}
use Rattle.lc_hier.specs.Seen.{AreClear, IsBlocker, others}
use Rattle.lc_hier.proofs.RowLaws.{length_listed}
use Rattle.lc_hier.proofs.Answering.{blocker_blocks, walk_answers, tests_most, known_most, known_more}
use Rattle.lc_hier.proofs.hier.Hier.blocked_counting.Goals as goal

pub returns-then-is_blocked_by-clause-value : goal.returns-then-is_blocked_by-clause-value
returns-then-is_blocked_by-clause-value c =
    blocker_blocks c.args.p c.args.q c.self.inside.rows.items c.args.self.now c.self.invariant.numbered c.self.view_is c.row-known.result
    (subst (λ (rows : List Row). IsBlocker c.args.p c.args.q rows c.row-known.result) c.deref.ensures.value (c.is_blocked_by.ensures.blocks.0 c.if-is_blocked_by.true))

pub returns-then-is_blocked_by-clause-most : goal.returns-then-is_blocked_by-clause-most
returns-then-is_blocked_by-clause-most c =
    let all : length c.args.self.now ≡ length c.self.inside.rows.items = ap length (sym c.self.view_is) ∙ length_listed c.self.inside.rows.items c.self.invariant.numbered in
    omega (arith, known_most c.row-known.result (length c.self.inside.rows.items) c.args.tests.now c.is_blocked_by.new.tests (subst (λ (rows : List Row). c.is_blocked_by.new.tests ≡ c.args.tests.now + (if nat_lt c.row-known.result (length rows) then 1 else 0)) c.deref.ensures.value c.is_blocked_by.ensures.counted), all)

pub returns-then-is_blocked_by-clause-some : goal.returns-then-is_blocked_by-clause-some
returns-then-is_blocked_by-clause-some c =
    λ _.
    let known = subst (λ (rows : List Row). IsBlocker c.args.p c.args.q rows c.row-known.result) c.deref.ensures.value (c.is_blocked_by.ensures.blocks.0 c.if-is_blocked_by.true) in
    known_more c.row-known.result (length c.self.inside.rows.items) c.args.tests.now c.is_blocked_by.new.tests (slice_get_within c.self.inside.rows.items c.row-known.result known.0 known.1) (subst (λ (rows : List Row). c.is_blocked_by.new.tests ≡ c.args.tests.now + (if nat_lt c.row-known.result (length rows) then 1 else 0)) c.deref.ensures.value c.is_blocked_by.ensures.counted)

pub returns-clause-value : goal.returns-clause-value
returns-clause-value c =
    c.is_some.ensures
    ∙ walk_answers c.args.p c.args.q c.self.inside.rows.items c.args.self.now c.self.invariant.numbered c.self.view_is c.row-known.result c.blocker-found.result
    (λ known. both_ways c.is_blocked_by.result c.if-is_blocked_by.false (c.is_blocked_by.ensures.blocks.1 (subst (λ (rows : List Row). IsBlocker c.args.p c.args.q rows c.row-known.result) (sym c.deref.ensures.value) known)))
    (subst (λ (rows : List Row). IfNone c.blocker-found.result (AreClear c.args.p c.args.q rows c.row-known.result (length rows))) c.deref-3.ensures.value c.blocker-found.ensures.clear)
    (subst (λ (rows : List Row). IfSome c.blocker-found.result (IsBlocker c.args.p c.args.q rows)) c.deref-3.ensures.value c.blocker-found.ensures.blocks)

pub returns-clause-most : goal.returns-clause-most
returns-clause-most c =
    let all : length c.args.self.now ≡ length c.self.inside.rows.items = ap length (sym c.self.view_is) ∙ length_listed c.self.inside.rows.items c.self.invariant.numbered in
    let most = subst (λ (rows : List Row). c.blocker-found.new.tests ≤ c.is_blocked_by.new.tests + others c.row-known.result (length rows)) c.deref-3.ensures.value c.blocker-found.ensures.counted in
    omega (arith, tests_most c.row-known.result (length c.self.inside.rows.items) c.args.tests.now c.is_blocked_by.new.tests c.blocker-found.new.tests (subst (λ (rows : List Row). c.is_blocked_by.new.tests ≡ c.args.tests.now + (if nat_lt c.row-known.result (length rows) then 1 else 0)) c.deref.ensures.value c.is_blocked_by.ensures.counted) most, all)
