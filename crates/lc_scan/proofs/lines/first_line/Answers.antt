use Rattle.std.proofs.Common.{◌≡◌, ℕ, ◌+◌, ◌-◌, List, ◌∷◌, length, take, drop, Option, Some, None, sym, ap, ◌∙◌, subst, arith}
use Rattle.std.proofs.lemmas.List.{take_rest, drop_all}
use Rattle.bstr.specs.Find.{IsFirstByte, is_byte}
use Rattle.lc_scan.specs.Lines.{line, pieces, joins, lines_of}
use Rattle.lc_scan.proofs.LineLemmas.{begins, at_end, at_feed, at_join}
use Rattle.lc_scan.proofs.lines.first_line.Goals as goal

in_rest : (text : List ℕ) (i : ℕ) (r : Option ℕ) → IsFirstByte (is_byte 10) (take (length text - i) (drop i text)) r → IsFirstByte (is_byte 10) (drop i text) r
in_rest text i r h = subst (λ (bs : List ℕ). IsFirstByte (is_byte 10) bs r) (take_rest text i) h

sub_front : (i k : ℕ) → k ≡ i + k - i
sub_front i k = omega arith

pub loop-at-init : goal.loop-at-init
loop-at-init c = record { within = omega arith; few = omega arith; first = begins c.args.number c.args.text.now c.requires.some }

pub returns-then-not-joins-clause-first : goal.returns-then-not-joins-clause-first
returns-then-not-joins-clause-first c =
    let text = c.args.text.now in
    let stop = c.loop-at.end in
    let at = c.in-Some.at in
    at_feed c.args.number c.loop-at.next text stop at c.loop-at.invariant (in_rest text stop (Some at) c.in-Some.ensures)
    (ap (λ (i : ℕ). joins (take i (drop stop text))) (sub_front stop at) ∙ sym c.joins.ensures ∙ c.if-not-joins.true)
    ∙ ap (λ (bs : List ℕ). line c.args.number (take (stop + at) text) ∷ lines_of (c.loop-at.next + 1) (pieces bs)) (sym (take_rest text (stop + at + 1)))

pub loop-at-preserved : goal.loop-at-preserved
loop-at-preserved c =
    let text = c.args.text.now in
    let stop = c.loop-at.end in
    let at = c.in-Some.at in
    at_join c.args.number c.loop-at.next text stop at c.loop-at.invariant (in_rest text stop (Some at) c.in-Some.ensures)
    (ap (λ (i : ℕ). joins (take i (drop stop text))) (sub_front stop at) ∙ sym c.joins.ensures ∙ c.if-not-joins.false)

pub returns-clause-first : goal.returns-clause-first
returns-clause-first c =
    let text = c.args.text.now in
    at_end c.args.number c.loop-at.next text c.loop-at.end c.loop-at.invariant (in_rest text c.loop-at.end None c.in_default.ensures)
    ∙ ap (λ (bs : List ℕ). line c.args.number text ∷ lines_of c.loop-at.next (pieces bs)) (sym (take_rest text (length text) ∙ drop_all (length text) text (omega arith)))
