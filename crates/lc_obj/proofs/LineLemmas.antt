-- A line by its keyword and its values.
use Rattle.std.proofs.Common.{◌≡◌, ℕ, List, ◌∷◌, drop, Option, None, sym, ap, ◌∙◌, subst}
use Rattle.lc_scan.specs.Fields.{field_at, fields, values_in}
use Rattle.lc_obj.specs.Keywords.{keyword_of}
use Rattle.lc_scan.specs.LineTests.{first_kind}
use Rattle.lc_obj.specs.ObjLine.{key, kind_of, line_tests}
use Rattle.lc_obj.specs.Readings.{Adds, IsLineStop}
use Rattle.lc_obj.specs.declared.keyword.Keyword.{Keyword}
use Rattle.lc_obj.specs.declared.fault_kind.FaultKind.{FaultKind}
use Rattle.lc_obj.specs.declared.reading.Reading.{Reading}
use Rattle.lc_obj.specs.declared.stop.LineStop.{LineStop}
use Rattle.lc_obj.specs.declared.tables.Tables.{Tables}

pub key_is : (line word : List ℕ) (rest : List (List ℕ)) (k : Keyword) → fields line ≡ word ∷ rest → k ≡ keyword_of word → k ≡ key line
key_is line word rest k e f = f ∙ ap (λ (fs : List (List ℕ)). keyword_of (field_at 0 fs)) (sym e)

pub values_are : (line word : List ℕ) (rest : List (List ℕ)) → fields line ≡ word ∷ rest → rest ≡ values_in line
values_are line word rest e = ap (λ (fs : List (List ℕ)). drop 1 fs) (sym e)

pub kind_is : (t : Tables) (n : ℕ) (line : List ℕ) (vs : List (List ℕ)) (k : Keyword) → k ≡ key line → vs ≡ values_in line → first_kind (line_tests k t n line vs) ≡ kind_of t n line
unfolding kind_of
kind_is t n line vs k e f =
    ap (λ (j : Keyword). first_kind (line_tests j t n line vs)) e ∙ ap (λ (ws : List (List ℕ)). first_kind (line_tests (key line) t n line ws)) f

adds : (line : List ℕ) (vs : List (List ℕ)) (k : Keyword) (old new : Reading) → k ≡ key line → vs ≡ values_in line → Adds k line vs old new → Adds (key line) line (values_in line) old new
adds line vs k old new e f a = subst (λ (ws : List (List ℕ)). Adds (key line) line ws old new) f (subst (λ (j : Keyword). Adds j line vs old new) e a)

pub takes_line : (t : Tables) (n : ℕ) (line : List ℕ) (vs : List (List ℕ)) (k : Keyword) (old new : Reading) → k ≡ key line → vs ≡ values_in line → (first_kind (line_tests k t n line vs) ≡ None) × Adds k line vs old new
    → (kind_of t n line ≡ None) × Adds (key line) line (values_in line) old new
takes_line t n line vs k old new e f a = (sym (kind_is t n line vs k e f) ∙ a.0, adds line vs k old new e f a.1)

-- a line stops for the same kind
pub same_stop : (s : LineStop) (found other : Option FaultKind) → found ≡ other → IsLineStop s found → IsLineStop s other
same_stop s found other e h = subst (λ (o : Option FaultKind). IsLineStop s o) e h
