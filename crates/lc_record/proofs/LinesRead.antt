-- Lines that were read, and the fault where they end.
use Rattle.std.proofs.Common.{◌≡◌, ◌≢◌, ℕ, ◌<◌, ◌≤◌, true, false, List, [], ◌∷◌, ◌++◌, decimal, length, flat_map, ◌==◌, refl, sym, ap, subst, ◌∙◌, arith, append_assoc, length-append}
use Rattle.std.proofs.lemmas.Bool.{eqb-false, eqb-true}
use Rattle.std.proofs.lemmas.List.{flat_map_more, nil_from_length}
use Rattle.std.proofs.lemmas.List.Elements.{All-push}
use Rattle.lc_rated.specs.declared.answer.Answer.{Answer}
use Rattle.lc_record.specs.declared.head.Header.{Header}
use Rattle.lc_record.specs.Record.{IsSample, line_bytes}
use Rattle.lc_record.specs.declared.fault_kind.FaultKind.{FaultKind}
use Rattle.lc_record.specs.declared.fault_kind.FaultKind.TheVariants as kind
use Rattle.lc_record.specs.Reading.{Begins, BeginsWithLines, IsLineFault, differs, ends, goes_on, fault_after, samples}
use Rattle.lc_record.proofs.Pieces.{from_evals, line_parts}

not_nil : (xs : List ℕ) → false ≡ (length xs == 0) → xs ≢ []
not_nil xs some none = let e : length xs ≡ 0 = ap (λ (r : List ℕ). length r) none in eqb-false (length xs) 0 (sym some) e

-- a line has a byte at least
pub line_not_empty : (a : Answer) → 0 < length (line_bytes a)
line_not_empty a =
    let whole : length (line_bytes a ++ []) ≡ length (decimal a.size ++ 32 ∷ [] ++ from_evals a []) = ap (λ (bs : List ℕ). length bs) (line_parts a []) in
    omega (arith, whole, length-append (line_bytes a) [], length-append (decimal a.size ++ 32 ∷ []) (from_evals a []), length-append (decimal a.size) (32 ∷ []))

pub lines_short : (answers : List Answer) → length answers ≤ length (flat_map line_bytes answers)
lines_short [] = omega arith
lines_short (a ∷ others) =
    let more : length others ≤ length (flat_map line_bytes others) = lines_short others in
    omega (arith, line_not_empty a, length-append (line_bytes a) (flat_map line_bytes others))

module _ (h : Header) (answers : List Answer) (rest bytes : List ℕ) (begins : BeginsWithLines h answers rest bytes) where
  -- no more lines than bytes
  pub few : length answers ≤ length bytes
  few = let e = ap (λ (bs : List ℕ). length bs) begins.lines in omega (arith, e, length-append (flat_map line_bytes answers) rest, lines_short answers)

  -- one line more
  pub more : (a : Answer) (after : List ℕ) → IsSample h.cut a → rest ≡ line_bytes a ++ after → BeginsWithLines h (answers ++ a ∷ []) after bytes
  more a after valid e = record {
    valid = All-push (IsSample h.cut) answers a begins.valid valid;
    lines =
        begins.lines ∙ ap (λ (r : List ℕ). flat_map line_bytes answers ++ r) e ∙ sym (append_assoc (flat_map line_bytes answers) (line_bytes a) after)
        ∙ ap (λ (front : List ℕ). front ++ after) (flat_map_more line_bytes [] answers a);
  }

  -- where they end
  module _ (at : ℕ) (count : length answers ≡ at) where
    fault_is : (k other : FaultKind) → k ≡ other → fault_after at k ≡ fault_after (length answers) other
    fault_is k other e = ap (λ (l : FaultKind). fault_after at l) e ∙ ap (λ (n : ℕ). fault_after n other) (sym count)

    pub ends_here : (k : FaultKind) → k ≡ kind.Count → at < samples h → true ≡ (length rest == 0) → IsLineFault h bytes (fault_after at k)
    ends_here k is below none =
        let empty : rest ≡ [] = nil_from_length rest (eqb-true (length rest) 0 (sym none)) in
        ends answers (subst (λ (r : List ℕ). BeginsWithLines h answers r bytes) empty begins) (omega arith) (fault_is k kind.Count is)

    pub differs_here : (k : FaultKind) → k ≡ kind.Line → at < samples h → false ≡ (length rest == 0) → (Begins (IsSample h.cut) line_bytes rest → ⊥)
        → IsLineFault h bytes (fault_after at k)
    differs_here k is below some none =
        differs answers rest begins (omega arith) (not_nil rest some) none (fault_is k kind.Line is)

    pub goes_on_here : at ≡ samples h → false ≡ (length rest == 0) → IsLineFault h bytes (fault_after at kind.Count)
    goes_on_here all some = goes_on answers rest begins (count ∙ all) (not_nil rest some) (fault_is kind.Count kind.Count refl)
