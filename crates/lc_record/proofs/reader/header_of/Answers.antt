use Rattle.std.proofs.Common.{ℕ, ◌++◌, ◌∙◌, List, ap, codes, sym, arith}
use Rattle.lc_num.specs.Rules.{rule_number}
use Rattle.lc_record.specs.Pieces.{ended}
use Rattle.lc_record.proofs.Pieces.{cut_same, from_cut, from_grid, from_height, from_permille, from_rule, from_width, grid_same, header_parts, height_same, mark_same, rule_same, width_same}
use Rattle.lc_record.proofs.reader.header_of.Goals as goal

pub returns-in_err-rest-clause-none : goal.returns-in_err-rest-clause-none
returns-in_err-rest-clause-none c = rw c.from_residual.ensures (λ (h, after, valid, e).
    c.in_err-rest.ensures.none (from_rule h after) (e ∙ header_parts h after))

pub returns-in_err-rule-clause-none : goal.returns-in_err-rule-clause-none
returns-in_err-rule-clause-none c = rw c.from_residual-in_err-rule.ensures (λ (h, after, valid, e).
    let mark = mark_same h after valid c.in_ok-rest.rest.now c.args.bytes.now c.in_ok-rest.ensures.found e in
    c.in_err-rule.ensures.none h.rule (from_width h after) mark)

pub returns-in_err-width-clause-none : goal.returns-in_err-width-clause-none
returns-in_err-width-clause-none c = rw c.from_residual-in_err-width.ensures (λ (h, after, valid, e).
    let mark = mark_same h after valid c.in_ok-rest.rest.now c.args.bytes.now c.in_ok-rest.ensures.found e in
    let rule = rule_same h after valid c.in_ok-rule.rest.now c.in_ok-rest.rest.now c.in_ok-rule.rule c.in_ok-rule.ensures.found mark in
    c.in_err-width.ensures.none (h.width, from_height h after, valid.width, rule.1))

pub returns-in_err-height-clause-none : goal.returns-in_err-height-clause-none
returns-in_err-height-clause-none c = rw c.from_residual-in_err-height.ensures (λ (h, after, valid, e).
    let mark = mark_same h after valid c.in_ok-rest.rest.now c.args.bytes.now c.in_ok-rest.ensures.found e in
    let rule = rule_same h after valid c.in_ok-rule.rest.now c.in_ok-rest.rest.now c.in_ok-rule.rule c.in_ok-rule.ensures.found mark in
    let width = width_same h after valid c.in_ok-width.rest.now c.in_ok-rule.rest.now c.in_ok-width.width c.in_ok-width.ensures.found rule.1 in
    c.in_err-height.ensures.none (h.height, from_grid h after, valid.height, width.1))

pub returns-in_err-grid-clause-none : goal.returns-in_err-grid-clause-none
returns-in_err-grid-clause-none c = rw c.from_residual-in_err-grid.ensures (λ (h, after, valid, e).
    let mark = mark_same h after valid c.in_ok-rest.rest.now c.args.bytes.now c.in_ok-rest.ensures.found e in
    let rule = rule_same h after valid c.in_ok-rule.rest.now c.in_ok-rest.rest.now c.in_ok-rule.rule c.in_ok-rule.ensures.found mark in
    let width = width_same h after valid c.in_ok-width.rest.now c.in_ok-rule.rest.now c.in_ok-width.width c.in_ok-width.ensures.found rule.1 in
    let height = height_same h after valid c.in_ok-height.rest.now c.in_ok-width.rest.now c.in_ok-height.height c.in_ok-height.ensures.found width.1 in
    c.in_err-grid.ensures.none (h.grid, from_cut h after, valid.grid, height.1))

pub returns-in_err-cut-clause-none : goal.returns-in_err-cut-clause-none
returns-in_err-cut-clause-none c = rw c.from_residual-in_err-cut.ensures (λ (h, after, valid, e).
    let mark = mark_same h after valid c.in_ok-rest.rest.now c.args.bytes.now c.in_ok-rest.ensures.found e in
    let rule = rule_same h after valid c.in_ok-rule.rest.now c.in_ok-rest.rest.now c.in_ok-rule.rule c.in_ok-rule.ensures.found mark in
    let width = width_same h after valid c.in_ok-width.rest.now c.in_ok-rule.rest.now c.in_ok-width.width c.in_ok-width.ensures.found rule.1 in
    let height = height_same h after valid c.in_ok-height.rest.now c.in_ok-width.rest.now c.in_ok-height.height c.in_ok-height.ensures.found width.1 in
    let grid = grid_same h after valid c.in_ok-grid.rest.now c.in_ok-height.rest.now c.in_ok-grid.grid c.in_ok-grid.ensures.found height.1 in
    c.in_err-cut.ensures.none (h.cut, from_permille h after, valid.cut, grid.1))

pub returns-in_err-permille-clause-none : goal.returns-in_err-permille-clause-none
returns-in_err-permille-clause-none c = rw c.from_residual-in_err-permille.ensures (λ (h, after, valid, e).
    let mark = mark_same h after valid c.in_ok-rest.rest.now c.args.bytes.now c.in_ok-rest.ensures.found e in
    let rule = rule_same h after valid c.in_ok-rule.rest.now c.in_ok-rest.rest.now c.in_ok-rule.rule c.in_ok-rule.ensures.found mark in
    let width = width_same h after valid c.in_ok-width.rest.now c.in_ok-rule.rest.now c.in_ok-width.width c.in_ok-width.ensures.found rule.1 in
    let height = height_same h after valid c.in_ok-height.rest.now c.in_ok-width.rest.now c.in_ok-height.height c.in_ok-height.ensures.found width.1 in
    let grid = grid_same h after valid c.in_ok-grid.rest.now c.in_ok-height.rest.now c.in_ok-grid.grid c.in_ok-grid.ensures.found height.1 in
    let cut = cut_same h after valid c.in_ok-cut.rest.now c.in_ok-grid.rest.now c.in_ok-cut.cut c.in_ok-cut.ensures.found grid.1 in
    c.in_err-permille.ensures.none (h.permille, after, (omega arith, valid.permille), cut.1))

pub returns-clause-found : goal.returns-clause-found
returns-clause-found c =
    let rule = c.in_ok-rule.ensures.found in
    let width = c.in_ok-width.ensures.found in
    let height = c.in_ok-height.ensures.found in
    let grid = c.in_ok-grid.ensures.found in
    let cut = c.in_ok-cut.ensures.found in
    let permille = c.in_ok-permille.ensures.found in (
      record { width = width.0; height = height.0; grid = grid.0; cut = cut.0; permille = permille.0.1 },
      c.in_ok-rest.ensures.found ∙ ap (λ (x : List ℕ). codes "LCB " ++ x) (rule ∙ ap (λ (x : List ℕ). ended 32 (rule_number c.in_ok-rule.rule) ++ x) (width.1 ∙ ap (λ (x : List ℕ). ended 32 c.in_ok-width.width ++ x)
          (height.1 ∙ ap (λ (x : List ℕ). ended 32 c.in_ok-height.height ++ x) (grid.1 ∙ ap (λ (x : List ℕ). ended 32 c.in_ok-grid.grid ++ x)
          (cut.1 ∙ ap (λ (x : List ℕ). ended 32 c.in_ok-cut.cut ++ x) permille.1)))))
          ∙ sym (header_parts (record { rule = c.in_ok-rule.rule; width = c.in_ok-width.width; height = c.in_ok-height.height; grid = c.in_ok-grid.grid; cut = c.in_ok-cut.cut; permille = c.in_ok-permille.permille }) c.in_ok-permille.rest.now),
    )
