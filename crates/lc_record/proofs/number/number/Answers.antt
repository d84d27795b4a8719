use Rattle.std.proofs.Common.{◌≡◌, leb, Bool, true, false, refl, ℕ, ◌+◌, ◌*◌, ◌<◌, List, ◌∷◌, ◌++◌, ◌∙◌, ap, sym, arith, decimal, inl, inr}
use Rattle.std.specs.Bool.{then_some}
use Rattle.std.specs.Option.{IfNone}
use Rattle.std.proofs.lemmas.Bool.{le-leb}
use Rattle.std.proofs.lemmas.Fmt.{decimal_digit}
use Rattle.lc_record.proofs.Decimals.{ends_at, first_digit, holds, longer, no_end, no_leading_zero, not_less}
use Rattle.lc_record.proofs.number.number.Goals.{else-least-value, then-least-value}
use Rattle.lc_record.proofs.number.number.Goals as goal

none_of : {A : Type 0} (b : Bool) (x : A) {P : Type 0} → (b ≡ false → P) → IfNone (then_some b x) P
none_of true x p = tt
none_of false x p = p refl

pub returns-in_err-value-clause-none : goal.returns-in_err-value-clause-none
returns-in_err-value-clause-none c = rw c.from_residual-in_err-value.ensures (λ (n, after, within, e).
    let h = holds n c.args.end after c.args.bytes.now (omega (arith, within)) c.requires.end e in
    c.in_err-value.ensures (first_digit n c.args.end after c.args.bytes.now h c.in_ok-first.first.now c.in_ok-first.rest.now c.in_ok-first.ensures.cases.0))

pub loop-next-init : goal.loop-next-init
loop-next-init c =
    let d = c.in_ok-value in
    record {
      text =
          c.in_ok-first.ensures.cases.0 ∙ ap (λ (b : ℕ). b ∷ c.in_ok-first.rest.now) d.ensures.1
          ∙ ap (λ (ds : List ℕ). ds ++ c.in_ok-first.rest.now) (sym (decimal_digit d.value d.ensures.0));
      small = omega (arith, d.ensures.0);
    }

pub returns-then-next-end-clause-none : goal.returns-then-next-end-clause-none
returns-then-next-end-clause-none c = rw c.then_some.ensures
    (none_of c.if-least-value.within _ (λ out (n, after, within, e).
    let h = holds n c.args.end after c.args.bytes.now (omega (arith, within)) c.requires.end e in
    let i = c.loop-next.invariant in
    let text = i.text ∙ ap (λ (r : List ℕ). decimal c.loop-next.value ++ r) c.in-Some.ensures.cases.0 in
    let same = ends_at n c.args.end after c.args.bytes.now h c.loop-next.value c.in-Some.next.now c.in-Some.after.now (omega (arith, i.small)) text
    (λ digit. omega (arith, c.requires.end, c.if-next-end.true, digit.0)) in
    elim c.if-least-value.branch [
      | then-least-value w ↦ let fits : leb c.loop-next.value c.args.most ≡ true = le-leb _ _ (omega (arith, within, same.0)) in cc (w.within-is, out, fits)
      | else-least-value w ↦ omega (arith, w.if-least-value.false, within, same.0)
    ]))

pub returns-in_err-longer-clause-none : goal.returns-in_err-longer-clause-none
returns-in_err-longer-clause-none c = rw c.from_residual-in_err-longer.ensures (λ (n, after, within, e).
    let h = holds n c.args.end after c.args.bytes.now (omega (arith, within)) c.requires.end e in
    let i = c.loop-next.invariant in
    let text = i.text ∙ ap (λ (r : List ℕ). decimal c.loop-next.value ++ r) c.in-Some.ensures.cases.0 in
    let same = ends_at n c.args.end after c.args.bytes.now h c.loop-next.value c.in-Some.next.now c.in-Some.after.now (omega (arith, i.small)) text
    c.in_err-longer.ensures in
    c.if-next-end.false same.1)

pub returns-then-leading_zero-clause-none : goal.returns-then-leading_zero-clause-none
returns-then-leading_zero-clause-none c (n, after, within, e) =
    let h = holds n c.args.end after c.args.bytes.now (omega (arith, within)) c.requires.end e in
    let i = c.loop-next.invariant in
    let v = c.loop-next.value in
    let d = c.in_ok-longer.field-0 in
    let text =
    i.text ∙ ap (λ (r : List ℕ). decimal v ++ r) c.in-Some.ensures.cases.0
    ∙ ap (λ (b : ℕ). decimal v ++ b ∷ c.in-Some.after.now) c.in_ok-longer.ensures.1 in
    elim c.then-leading_zero.either [
      | inl nothing ↦ no_leading_zero n c.args.end after c.args.bytes.now h v d c.in-Some.after.now nothing text
      | inr more ↦
          let above : 0 < v = omega (arith, more.0) in
          let least = not_less n c.args.end after c.args.bytes.now h (v * 10 + d) c.in-Some.after.now (omega (arith, i.small, c.in_ok-longer.ensures.0))
          (text ∙ longer v d c.in-Some.after.now c.in_ok-longer.ensures.0 above i.small) in
          omega (arith, least, more.1, within)
    ]

pub loop-next-preserved : goal.loop-next-preserved
loop-next-preserved c =
    let i = c.loop-next.invariant in
    let v = c.loop-next.value in
    let d = c.in_ok-longer.field-0 in
    let text =
    i.text ∙ ap (λ (r : List ℕ). decimal v ++ r) c.in-Some.ensures.cases.0
    ∙ ap (λ (b : ℕ). decimal v ++ b ∷ c.in-Some.after.now) c.in_ok-longer.ensures.1 in
    record {
      text = text ∙ longer v d c.in-Some.after.now c.in_ok-longer.ensures.0 (omega arith) i.small;
      small = omega arith;
    }

pub returns-clause-none : goal.returns-clause-none
returns-clause-none c (n, after, within, e) =
    let h = holds n c.args.end after c.args.bytes.now (omega (arith, within)) c.requires.end e in
    let i = c.loop-next.invariant in
    no_end n c.args.end after c.args.bytes.now h c.loop-next.value c.loop-next.rest.now (omega (arith, i.small)) c.in_default.ensures.cases i.text
