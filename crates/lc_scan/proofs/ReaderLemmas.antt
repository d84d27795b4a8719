-- For a reader that goes over the lines of a text: what the lines seen and those still to come say of it.
use Rattle.std.proofs.Common.{◌≡◌, ℕ, ◌<◌, cond, List, [], ◌∷◌, ◌++◌, length, Option, Some, None, refl, sym, ap, ◌∙◌, append_assoc, arith}
use Rattle.std.proofs.lemmas.List.{append-nil}
use Rattle.std.proofs.lemmas.Bool.{lt-ltb, le-ltb}
use Rattle.lc_num.specs.Faults.{Fault}
use Rattle.lc_scan.specs.Lines.{Line}
use Rattle.lc_scan.specs.Fields.{fields}
use Rattle.lc_scan.specs.Spoken.{spoken, spoken_in}
use Rattle.lc_scan.specs.Faults.{Judge, fault_then, first_fault, fault_in}

-- ---- lines with and without fields

pub spoken_in-passes_over : (l : Line) (later : List Line) → length (fields l.bytes) ≡ 0 → spoken_in (l ∷ later) ≡ spoken_in later
spoken_in-passes_over l later none = ap (λ b. cond b (l ∷ spoken_in later) (spoken_in later)) (le-ltb 0 (length (fields l.bytes)) (omega arith))

pub spoken_in-keeps : (l : Line) (later : List Line) → 0 < length (fields l.bytes) → spoken_in (l ∷ later) ≡ l ∷ spoken_in later
spoken_in-keeps l later some = ap (λ b. cond b (l ∷ spoken_in later) (spoken_in later)) (lt-ltb 0 (length (fields l.bytes)) some)

-- ---- the first fault

pub first_fault-none : (judge : Judge) (before : List Line) → first_fault judge before [] ≡ None
unfolding first_fault
first_fault-none judge before = refl

pub first_fault-cons : (judge : Judge) (before : List Line) (l : Line) (later : List Line) (o : Option ℕ) → judge before l ≡ o → first_fault judge before (l ∷ later) ≡ fault_then o l.number (first_fault judge (before ++ l ∷ []) later)
unfolding first_fault
first_fault-cons judge before l later o e = ap (λ (x : Option ℕ). fault_then x l.number (first_fault judge (before ++ l ∷ []) later)) e

-- where a text has no fault, none of its lines has one
pub fault_then-none : (o : Option ℕ) (number : ℕ) (later : Option Fault) → fault_then o number later ≡ None → (o ≡ None) × (later ≡ None)
fault_then-none None number later e = (refl, e)
fault_then-none (Some kind) number later e = absurd cc

-- ---- a reader's progress

-- the lines seen have no fault, and those left are still to come
pub record Progress (judge : Judge) (text : List ℕ) (seen left : List Line) : Type 0 where
  pub spoken_is : spoken text ≡ seen ++ left
  pub fault_is : fault_in judge text ≡ first_fault judge seen left

pub start : (judge : Judge) (text : List ℕ) → Progress judge text [] (spoken text)
start judge text = record { spoken_is = refl; fault_is = refl }

-- a line without a fault is seen
pub takes : (judge : Judge) (text : List ℕ) (seen left later : List Line) (l : Line) → left ≡ l ∷ later → judge seen l ≡ None → Progress judge text seen left → Progress judge text (seen ++ l ∷ []) later
takes judge text seen left later l e good p = record {
  spoken_is = p.spoken_is ∙ ap (λ (ls : List Line). seen ++ ls) e ∙ sym (append_assoc seen (l ∷ []) later);
  fault_is = p.fault_is ∙ ap (λ (ls : List Line). first_fault judge seen ls) e ∙ first_fault-cons judge seen l later None good;
}

-- a faulty line is the text's first
pub stops : (judge : Judge) (text : List ℕ) (seen left later : List Line) (l : Line) (kind : ℕ) → left ≡ l ∷ later → judge seen l ≡ Some kind → Progress judge text seen left → fault_in judge text ≡ Some (record { line = l.number; kind = kind })
stops judge text seen left later l kind e bad p =
    p.fault_is ∙ ap (λ (ls : List Line). first_fault judge seen ls) e ∙ first_fault-cons judge seen l later (Some kind) bad

-- where no line is left, the text has no fault and its lines are those seen
pub ends : (judge : Judge) (text : List ℕ) (seen left : List Line) → left ≡ [] → Progress judge text seen left → (fault_in judge text ≡ None) × (spoken text ≡ seen)
ends judge text seen left e p = (
  p.fault_is ∙ ap (λ (ls : List Line). first_fault judge seen ls) e ∙ first_fault-none judge seen,
  p.spoken_is ∙ ap (λ (ls : List Line). seen ++ ls) e ∙ append-nil seen,
)
