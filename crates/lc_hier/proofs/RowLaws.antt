-- The list that rows stand for has the rows' triangles at their numbers, and no others.
use Rattle.std.proofs.Common.{◌≡◌, ℕ, zero, suc, ◌+◌, ◌<◌, ◌==◌, List, [], ◌∷◌, length, map, get_or, Bool, true, false, if◌then◌else◌, ap, sym, ◌∙◌, subst, arith, zero-add}
use Rattle.std.proofs.lemmas.List.{length-map}
use Rattle.std.specs.Prelude.{Some, option_map, slice_get}
use Rattle.std.specs.List.{IsDistinct, AllByRecursion, range_with_len}
use Rattle.std.proofs.lemmas.Bool.{eq-eqb, ne_eqb}
use Rattle.std.proofs.lemmas.Bool.Decides.{nat_tests}
use Rattle.std.proofs.lemmas.List.FromFn.{length-range_with_len, get_or-range_with_len, length-map-range_with_len}
use Rattle.std.proofs.lemmas.List.Sorted.{Contains-permutation, IsPermutation-sym}
use Rattle.std.proofs.lemmas.Map.Keys.{IsDistinct-IsPermutation}
use Rattle.std.proofs.lemmas.Option.{same_Some, none-some, slice_get-map, slice_get-get_or, slice_get_within, get_or_from_slice_get}
use Rattle.lc_geom.specs.declared.triangle.Tri.{Tri}
use Rattle.lc_hier.specs.declared.node.Row.{Row}
use Rattle.lc_hier.proofs.Layouts.{item_at}
use Rattle.lc_hier.specs.Rows.{triangle_of, list_of, AreNumbered}

abbrev numbers : List Row → List ℕ
numbers rows = map (λ row. row.number) rows

abbrev same : ℕ → ℕ → Bool
same m n = m == n

flips : (x y : ℕ) → same x y ≡ same y x
flips x y = grind (arith, nat_tests)

not_later : (a b n : ℕ) → a < b → AllByRecursion (λ y. same a y ≡ false) (range_with_len b n)
not_later a b zero h = tt
not_later a b (suc n) h = (ne_eqb a b (λ e. omega (arith, e, h)), not_later a (b + 1) n (omega (arith, h)))

range_distinct : (a n : ℕ) → IsDistinct same (range_with_len a n)
unfolding IsDistinct
range_distinct a zero = tt
range_distinct a (suc n) = (not_later a (a + 1) n (omega arith), range_distinct (a + 1) n)

numbers_distinct : (rows : List Row) → AreNumbered rows → IsDistinct same (numbers rows)
numbers_distinct rows once =
    let range = range_with_len 0 (length rows) in
    IsDistinct-IsPermutation same flips range (numbers rows) (IsPermutation-sym (numbers rows) range once) (range_distinct 0 (length rows))

chosen : (b : Bool) (s t u : Tri) → b ≡ false → t ≡ u → (if b then s else t) ≡ u
chosen true s t u e f = absurd cc
chosen false s t u e f = f

all_at : (P : ℕ → Type 0) (ks : List ℕ) (j k : ℕ) → AllByRecursion P ks → slice_get ks j ≡ Some k → P k
all_at P [] j k all there = absurd (none-some k there)
all_at P (x ∷ ks) zero k all there = subst P (same_Some x k there) all.0
all_at P (x ∷ ks) (suc j) k all there = all_at P ks j k all.1 there

number_at : (rows : List Row) (j : ℕ) (row : Row) → slice_get rows j ≡ Some row → slice_get (numbers rows) j ≡ Some row.number
number_at rows j row there = slice_get-map (λ (x : Row). x.number) rows j ∙ ap (λ o. option_map (λ (x : Row). x.number) o) there

triangle_at : (rows : List Row) (j : ℕ) (row : Row) → IsDistinct same (numbers rows) → slice_get rows j ≡ Some row → triangle_of rows row.number ≡ row.triangle
unfolding IsDistinct
triangle_at [] j row distinct there = absurd (none-some row there)
triangle_at (r ∷ rows) zero row distinct there =
    let e : r ≡ row = same_Some r row there in
    let here : (r.number == row.number) ≡ true = eq-eqb r.number row.number (ap (λ (x : Row). x.number) e) in
    rw here (ap (λ (x : Row). x.triangle) e)
triangle_at (r ∷ rows) (suc j) row distinct there =
    chosen (r.number == row.number) r.triangle (triangle_of rows row.number) row.triangle
    (all_at (λ y. same r.number y ≡ false) (numbers rows) j row.number distinct.0 (number_at rows j row there)) (triangle_at rows j row distinct.1 there)

in_range : (n k d : ℕ) → k < n → get_or (range_with_len 0 n) k d ≡ k
in_range n k d h = get_or-range_with_len 0 n k d h ∙ zero-add k

number_within : (rows : List Row) (j : ℕ) (row : Row) → AreNumbered rows → slice_get rows j ≡ Some row → row.number < length rows
number_within rows j row once there =
    let range = range_with_len 0 (length rows) in
    let within = slice_get_within rows j row there in
    let has = Contains-permutation (numbers rows) range row.number once (j, omega (arith, within, length-map rows (λ (x : Row). x.number)), get_or_from_slice_get (numbers rows) j row.number row.number (number_at rows j row there)) in
    omega (arith, has.1, has.2, in_range (length rows) has.0 row.number (omega (arith, has.1, length-range_with_len 0 (length rows))), length-range_with_len 0 (length rows))

module _ (rows : List Row) (once : AreNumbered rows) where
  -- a row's triangle stands in the list at its number
  pub row_listed : (j : ℕ) (row : Row) → slice_get rows j ≡ Some row → slice_get (list_of rows) row.number ≡ Some row.triangle
  unfolding list_of
  row_listed j row there =
      let within = number_within rows j row once there in
      let range = range_with_len 0 (length rows) in
      slice_get-map (triangle_of rows) range row.number
      ∙ ap (λ o. option_map (triangle_of rows) o) (slice_get-get_or range row.number 0 (omega (arith, within, length-range_with_len 0 (length rows))) ∙ ap (λ k. Some k) (in_range (length rows) row.number 0 within))
      ∙ ap (λ t. Some t) (triangle_at rows j row (numbers_distinct rows once) there)

  pub length_listed : length (list_of rows) ≡ length rows
  unfolding list_of
  length_listed = length-map-range_with_len (triangle_of rows) 0 (length rows)

  -- each triangle of the list is that of the row that has its number
  pub listed_row : (k : ℕ) (t : Tri) → slice_get (list_of rows) k ≡ Some t → (j : ℕ) × (row : Row) × (slice_get rows j ≡ Some row) × (row.number ≡ k) × (row.triangle ≡ t)
  listed_row k t there =
      let within : k < length rows = omega (arith, slice_get_within (list_of rows) k t there, length_listed) in
      let range = range_with_len 0 (length rows) in
      let has = Contains-permutation range (numbers rows) k (IsPermutation-sym (numbers rows) range once) (k, omega (arith, within, length-range_with_len 0 (length rows)), in_range (length rows) k k within) in
      let found = item_at rows has.0 (omega (arith, has.1, length-map rows (λ (x : Row). x.number))) in
      let number : found.0.number ≡ k = sym (get_or_from_slice_get (numbers rows) has.0 found.0.number k (number_at rows has.0 found.0 found.1)) ∙ has.2 in (
        has.0,
        found.0,
        found.1,
        number,
        same_Some found.0.triangle t (sym (row_listed has.0 found.0 found.1) ∙ ap (slice_get (list_of rows)) number ∙ there),
      )
