-- Rows stand for the list whose triangles they have.
use Rattle.std.proofs.Common.{◌≡◌, ℕ, zero, suc, ◌<◌, ◌==◌, List, [], ◌∷◌, length, map, get_or, true, false, if◌then◌else◌, refl, ap, sym, ◌∙◌, arith, All}
use Rattle.std.specs.List.{Contains, range_with_len}
use Rattle.std.proofs.lemmas.Bool.{eqb-true, eqb-false}
use Rattle.std.proofs.lemmas.List.Elements.{All-head, All-tail}
use Rattle.std.proofs.lemmas.List.FromFn.{fill_by_all, length-range_with_len, get_or-range_with_len}
use Rattle.std.proofs.lemmas.List.Sorted.{Contains-permutation, IsPermutation-sym}
use Rattle.lc_geom.specs.declared.triangle.Tri.{Tri}
use Rattle.lc_hier.specs.declared.node.Row.{Row}
use Rattle.lc_hier.specs.Rows.{triangle_of, list_of, AreNumbered}

abbrev numbers : List Row → List ℕ
numbers rows = map (λ row. row.number) rows

-- what the list has at a row's number
abbrev pub IsOf : List Tri → Tri → Row → Type 0
IsOf list d row = row.triangle ≡ get_or list row.number d

not_first : (x n : ℕ) (xs : List ℕ) → (x ≡ n → ⊥) → Contains (x ∷ xs) n → Contains xs n
not_first x n xs other (zero, below, at) = absurd (other at)
not_first x n xs other (suc k, below, at) = (k, omega arith, at)

found : (list : List Tri) (d : Tri) (rows : List Row) (n : ℕ) → All (IsOf list d) rows → Contains (numbers rows) n → triangle_of rows n ≡ get_or list n d
found list d [] n of (k, below, at) = absurd (omega arith)
found list d (row ∷ rows) n of has =
    elim (row.number == n) as (λ v. (row.number == n) ≡ v → (if v then row.triangle else triangle_of rows n) ≡ get_or list n d) [
      | true ↦ (λ e. All-head (IsOf list d) row rows of ∙ ap (λ k. get_or list k d) (eqb-true row.number n e))
      | false ↦ (λ e. found list d rows n (All-tail (IsOf list d) row rows of) (not_first row.number n (numbers rows) (eqb-false row.number n e) has))
    ] refl

numbered_all : (rows : List Row) (n : ℕ) → AreNumbered rows → n < length rows → Contains (numbers rows) n
numbered_all rows n once below =
    let range = range_with_len 0 (length rows) in
    let within : n < length range = omega (arith, length-range_with_len 0 (length rows)) in
    let at : get_or range n n ≡ n = get_or-range_with_len 0 (length rows) n n below ∙ (omega arith) in
    Contains-permutation range (numbers rows) n (IsPermutation-sym (numbers rows) range once) (n, within, at)

-- where each number stands in one row, and the rows have the list's triangles, they stand for the list
pub listed : (list : List Tri) (d : Tri) (rows : List Row) → length rows ≡ length list → AreNumbered rows → All (IsOf list d) rows → list_of rows ≡ list
unfolding list_of
listed list d rows same once of =
    sym (fill_by_all (triangle_of rows) list (length rows) d (sym same) (λ k below. sym (found list d rows k of (numbered_all rows k once below))))
