-- The rows of a list's items.
use Rattle.std.proofs.Common.{◌≡◌, ℕ, zero, suc, ◌+◌, ◌<◌, List, [], ◌∷◌, ◌++◌, length, map, take, drop, slice_get, get_or, Some, refl, ap, sym, subst, ◌∙◌, arith, All}
use Rattle.std.specs.List.{range_with_len}
use Rattle.std.specs.Prelude.{IsPermutation, option_map}
use Rattle.std.proofs.lemmas.List.{get_or_default, length-map, map_push, take_at}
use Rattle.std.proofs.lemmas.List.Elements.{All-get_or, All-map, All-push, All-same, All-weaker}
use Rattle.std.proofs.lemmas.List.FromFn.{length-range_with_len}
use Rattle.std.proofs.lemmas.List.Sorted.{All-permutation, IsPermutation-map, IsPermutation-sym, length_permutation}
use Rattle.std.proofs.lemmas.Option.{get_or_from_slice_get, slice_get-map, slice_get_within, same_Some}
use Rattle.lc_num.specs.Vectors.{zero_vector}
use Rattle.lc_geom.specs.declared.triangle.Tri.{Tri}
use Rattle.lc_geom.specs.Triangles.{IsTri}
use Rattle.lc_hier.specs.declared.item.Item.{Item}
use Rattle.lc_hier.specs.declared.node.Row.{Row}
use Rattle.lc_hier.specs.Boxes.{Holds}
use Rattle.lc_hier.specs.Rows.{list_of, AreNumbered}
use Rattle.lc_hier.specs.Grown.{row_of, IsItem, AreHeld, AreRows}
use Rattle.lc_hier.proofs.Listing.{IsOf, listed}

abbrev pub numbers : List Item → List ℕ
numbers items = map (λ item. item.number) items

range_more_from : (a n : ℕ) → range_with_len a (suc n) ≡ range_with_len a n ++ (a + n) ∷ []
range_more_from a zero = let e : a ≡ a + 0 = omega arith in ap (λ k. k ∷ []) e
range_more_from a (suc n) =
    let e : (a + 1) + n ≡ a + suc n = omega arith in
    ap (λ ks. a ∷ ks) (range_more_from (a + 1) n ∙ ap (λ k. range_with_len (a + 1) n ++ k ∷ []) e)

range_more : (n : ℕ) → range_with_len 0 (n + 1) ≡ range_with_len 0 n ++ n ∷ []
range_more n =
    let s : n + 1 ≡ suc n = omega arith in
    let z : 0 + n ≡ n = omega arith in
    ap (range_with_len 0) s ∙ range_more_from 0 n ∙ ap (λ k. range_with_len 0 n ++ k ∷ []) z

pub counted : (list : List Tri) (items : List Item) → numbers items ≡ range_with_len 0 (length list) → length items ≡ length list
counted list items e =
    sym (length-map items (λ item. item.number)) ∙ ap length e ∙ length-range_with_len 0 (length list)

held_rows : (list : List Tri) (items : List Item) → All (IsItem list) items → AreHeld items (map (row_of list) items) 0
held_rows list items all = record {
  at = λ k item row is in_rows.
      let here : 0 + k ≡ k = omega arith in
      let got : slice_get (map (row_of list) items) k ≡ Some (row_of list item) = slice_get-map (row_of list) items k ∙ ap (λ o. option_map (row_of list) o) is in
      let e : row_of list item ≡ row = same_Some (row_of list item) row (sym got ∙ ap (slice_get (map (row_of list) items)) (sym here) ∙ in_rows) in
      let right : IsItem list item = subst (IsItem list) (get_or_from_slice_get items k item item is) (All-get_or (IsItem list) items k item (slice_get_within items k item is) all) in
      subst (λ row. Holds item.bounds row.triangle) e right.held;
}

numbers_rows : (list : List Tri) (items : List Item) → map (λ row. row.number) (map (row_of list) items) ≡ numbers items
numbers_rows list [] = refl
numbers_rows list (item ∷ items) = ap (λ ns. item.number ∷ ns) (numbers_rows list items)

-- the items of a list, in another order
pub record AreMoved (list : List Tri) (moved : List Item) : Type 0 where
  pub items : List Item
  pub numbers_are : numbers items ≡ range_with_len 0 (length list)
  pub right : All (IsItem list) items
  pub permuted : IsPermutation items moved

-- items that are moved where they lie: what they were is taken, and what they became is written back
pub written_back : (items taken written shown : List Item) (n : ℕ) → n ≡ length items → taken ≡ items → IsPermutation taken written → shown ≡ take n (written ++ drop (length written) items) → shown ≡ written
written_back items taken written shown n long same permuted is =
    is ∙ take_at written (drop (length written) items) n (omega (arith, long, ap length same, length_permutation taken written permuted))

pub moved_in_place : (list : List Tri) (items taken written shown : List Item) (n : ℕ) → n ≡ length items → numbers items ≡ range_with_len 0 (length list) → All (IsItem list) items → taken ≡ items → IsPermutation taken written → shown ≡ take n (written ++ drop (length written) items) → AreMoved list shown
moved_in_place list items taken written shown n long numbers_are right same permuted is =
    let whole = written_back items taken written shown n long same permuted is in
    record {
      items = items;
      numbers_are = numbers_are;
      right = right;
      permuted = subst (IsPermutation items) (sym whole) (subst (λ xs. IsPermutation xs written) same permuted);
    }

pub moved_right : (list : List Tri) (moved : List Item) → AreMoved list moved → All (IsItem list) moved
moved_right list moved m = All-permutation (IsItem list) m.items moved m.permuted m.right

module _ (list : List Tri) (moved : List Item) (rows : List Row) (m : AreMoved list moved) (made : rows ≡ map (row_of list) moved) where
  many : length (map (row_of list) moved) ≡ length list
  many = length-map moved (row_of list) ∙ length_permutation m.items moved m.permuted ∙ counted list m.items m.numbers_are

  numbered : AreNumbered (map (row_of list) moved)
  numbered =
      subst (λ ns. IsPermutation ns (range_with_len 0 (length (map (row_of list) moved)))) (sym (numbers_rows list moved))
      (subst (λ n. IsPermutation (numbers moved) (range_with_len 0 n)) (sym many)
      (subst (IsPermutation (numbers moved)) m.numbers_are (IsPermutation-sym (numbers m.items) (numbers moved) (IsPermutation-map (λ item. item.number) m.items moved m.permuted))))

  -- rows made of items in another order are rows of these
  pub rows_made : All IsTri list → AreRows moved rows
  rows_made valid =
      let right = moved_right list moved m in
      let from : AreRows moved (map (row_of list) moved) = record {
        many = length-map moved (row_of list);
        held = held_rows list moved right;
        numbered = numbered;
        valid = All-map (λ row. IsTri row.triangle) (row_of list) moved
            (All-weaker (IsItem list) (λ item. IsTri (row_of list item).triangle) (λ item is. All-get_or IsTri list item.number _ is.below valid) moved right);
      } in
      subst (AreRows moved) (sym made) from

  -- and they stand for the list
  pub list_made : list_of rows ≡ list
  list_made =
      let none : Tri = record { a = zero_vector; b = zero_vector; c = zero_vector } in
      ap list_of made
      ∙ listed list none (map (row_of list) moved) many numbered
      (All-map (IsOf list none) (row_of list) moved
      (All-weaker (IsItem list) (λ item. IsOf list none (row_of list item)) (λ item is. refl) moved (moved_right list moved m)))

-- one item more
pub numbers_more : (items new : List Item) (item : Item) → new ≡ items ++ item ∷ [] → numbers items ≡ range_with_len 0 item.number → numbers new ≡ range_with_len 0 (item.number + 1)
numbers_more items new item pushed e =
    ap numbers pushed ∙ map_push (λ item. item.number) items item ∙ ap (λ ns. ns ++ item.number ∷ []) e ∙ sym (range_more item.number)

pub held_more : (list : List Tri) (items new : List Item) (item : Item) (d : Tri) → new ≡ items ++ item ∷ [] → item.number < length list → Holds item.bounds (get_or list item.number d) → All (IsItem list) items → All (IsItem list) new
held_more list items new item d pushed below holds all =
    let right : IsItem list item = record { below = below; held = subst (Holds item.bounds) (get_or_default list item.number d (record { a = zero_vector; b = zero_vector; c = zero_vector }) below) holds } in
    All-same (IsItem list) new (items ++ item ∷ []) pushed (All-push (IsItem list) items item all right)
