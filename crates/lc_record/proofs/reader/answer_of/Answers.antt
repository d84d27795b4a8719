use Rattle.std.proofs.Common.{ℕ, ◌++◌, ◌∙◌, List, ap, sym, arith}
use Rattle.lc_record.specs.Pieces.{colour, ended}
use Rattle.lc_record.proofs.Pieces.{est_same, evals_same, from_bound, from_est, from_evals, line_parts, size_same}
use Rattle.lc_record.proofs.reader.answer_of.Goals as goal

pub returns-in_err-size-clause-none : goal.returns-in_err-size-clause-none
returns-in_err-size-clause-none c = rw c.from_residual.ensures (λ (a, after, valid, e).
    c.in_err-size.ensures.none (a.size, from_evals a after, (omega arith, omega (arith, valid.size, c.from-cut.ensures)), e ∙ line_parts a after))

pub returns-in_err-evals-clause-none : goal.returns-in_err-evals-clause-none
returns-in_err-evals-clause-none c = rw c.from_residual-in_err-evals.ensures (λ (a, after, valid, e).
    let size = size_same c.args.cut c.requires a after valid c.in_ok-size.rest.now c.args.bytes.now c.in_ok-size.size ((omega arith, omega (arith, c.in_ok-size.ensures.found.0, c.from-cut.ensures)), c.in_ok-size.ensures.found.1) e in
    c.in_err-evals.ensures.none (a.evals, from_est a after, (omega arith, omega (arith, valid.evals, c.from-cut.ensures)), size.1))

pub returns-in_err-est-clause-none : goal.returns-in_err-est-clause-none
returns-in_err-est-clause-none c = rw c.from_residual-in_err-est.ensures (λ (a, after, valid, e).
    let size = size_same c.args.cut c.requires a after valid c.in_ok-size.rest.now c.args.bytes.now c.in_ok-size.size ((omega arith, omega (arith, c.in_ok-size.ensures.found.0, c.from-cut.ensures)), c.in_ok-size.ensures.found.1) e in
    let evals = evals_same c.args.cut c.requires a after valid c.in_ok-evals.rest.now c.in_ok-size.rest.now c.in_ok-evals.evals ((omega arith, omega (arith, c.in_ok-evals.ensures.found.0, c.from-cut.ensures)), c.in_ok-evals.ensures.found.1) size.1 in
    c.in_err-est.ensures.none (a.est, from_bound a after, valid.est, evals.1))

pub returns-in_err-bound-clause-none : goal.returns-in_err-bound-clause-none
returns-in_err-bound-clause-none c = rw c.from_residual-in_err-bound.ensures (λ (a, after, valid, e).
    let size = size_same c.args.cut c.requires a after valid c.in_ok-size.rest.now c.args.bytes.now c.in_ok-size.size ((omega arith, omega (arith, c.in_ok-size.ensures.found.0, c.from-cut.ensures)), c.in_ok-size.ensures.found.1) e in
    let evals = evals_same c.args.cut c.requires a after valid c.in_ok-evals.rest.now c.in_ok-size.rest.now c.in_ok-evals.evals ((omega arith, omega (arith, c.in_ok-evals.ensures.found.0, c.from-cut.ensures)), c.in_ok-evals.ensures.found.1) size.1 in
    let est = est_same c.args.cut c.requires a after valid c.in_ok-est.rest.now c.in_ok-evals.rest.now c.in_ok-est.est c.in_ok-est.ensures.found evals.1 in
    c.in_err-bound.ensures.none (a.bound, after, valid.bound, est.1))

pub returns-clause-found : goal.returns-clause-found
returns-clause-found c =
    let size = c.in_ok-size.ensures.found in
    let evals = c.in_ok-evals.ensures.found in
    let est = c.in_ok-est.ensures.found in
    let bound = c.in_ok-bound.ensures.found in (
      record { size = omega (arith, size.0, c.from-cut.ensures); evals = omega (arith, evals.0, c.from-cut.ensures); est = est.0; bound = bound.0 },
      size.1 ∙ ap (λ (x : List ℕ). ended 32 c.in_ok-size.size ++ x) (evals.1 ∙ ap (λ (x : List ℕ). ended 32 c.in_ok-evals.evals ++ x)
          (est.1 ∙ ap (λ (x : List ℕ). colour 32 c.in_ok-est.est ++ x) bound.1))
          ∙ sym (line_parts (record { size = c.in_ok-size.size; evals = c.in_ok-evals.evals; est = c.in_ok-est.est; bound = c.in_ok-bound.bound }) c.in_ok-bound.rest.now),
    )
