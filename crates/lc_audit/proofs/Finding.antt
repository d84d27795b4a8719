-- The first place that passes a test, among the places of the items of a list.
use Rattle.std.proofs.Common.{◌≡◌, ℕ, zero, suc, ◌+◌, ◌≤◌, Bool, true, false, cond, Option, Some, None, List, [], ◌∷◌, ◌++◌, take, drop, get_or, length, refl, sym, ◌∙◌, ap, arith, append-nil, slice_get}
use Rattle.std.specs.Prelude.{find, filter, flat_map}
use Rattle.std.specs.Option.{option_or}
use Rattle.std.proofs.lemmas.List.{take_more, take_all, take-append-drop}
use Rattle.std.proofs.lemmas.List.Concat.{flat_map-append}
use Rattle.std.proofs.lemmas.List.Folds.{find-append}
use Rattle.std.proofs.lemmas.Option.{slice_get_within, get_or_from_slice_get}

module _ {X Y : Type 0} (places : X → List Y) (p : Y → Bool) where
  abbrev pub found : List X → Option Y
  found xs = find p (flat_map places xs)

  pub found-append : (xs ys : List X) → found (xs ++ ys) ≡ option_or (found xs) (found ys)
  found-append xs ys =
      ap (find p) (flat_map-append places xs ys) ∙ find-append p (flat_map places xs) (flat_map places ys)

  found-cons : (x : X) (xs : List X) → found (x ∷ xs) ≡ option_or (find p (places x)) (found xs)
  found-cons x xs = find-append p (places x) (flat_map places xs)

  -- the first i, and one more
  more : (xs : List X) (i : ℕ) (x : X) → slice_get xs i ≡ Some x → found (take i xs) ≡ None
      → found (take (i + 1) xs) ≡ find p (places x)
  more xs i x e none =
      ap found (take_more xs i x (slice_get_within xs i x e)) ∙ found-append (take i xs) (get_or xs i x ∷ [])
      ∙ ap (λ o. option_or o (found (get_or xs i x ∷ []))) none
      ∙ ap (λ y. found (y ∷ [])) (get_or_from_slice_get xs i x x e) ∙ ap (find p) (append-nil (places x))

  pub none_more : (xs : List X) (i : ℕ) (x : X) → slice_get xs i ≡ Some x → found (take i xs) ≡ None
      → find p (places x) ≡ None → found (take (i + 1) xs) ≡ None
  none_more xs i x e none h = more xs i x e none ∙ h

  pub first_at : (xs : List X) (i : ℕ) (x : X) (y : Y) → slice_get xs i ≡ Some x → found (take i xs) ≡ None
      → find p (places x) ≡ Some y → found xs ≡ Some y
  first_at xs i x y e none h =
      ap found (sym (take-append-drop (i + 1) xs)) ∙ found-append (take (i + 1) xs) (drop (i + 1) xs)
      ∙ ap (λ o. option_or o (found (drop (i + 1) xs))) (more xs i x e none ∙ h)

  pub none_all : (xs : List X) (i : ℕ) → length xs ≤ i → found (take i xs) ≡ None → found xs ≡ None
  none_all xs i le h = ap found (sym (take_all i xs le)) ∙ h

  -- ---- where there is none

  first_none : (o r : Option Y) → option_or o r ≡ None → o ≡ None
  first_none None r h = refl
  first_none (Some y) r h = h

  later_none : (o r : Option Y) → option_or o r ≡ None → r ≡ None
  later_none None r h = h
  later_none (Some y) r h = cc

  -- no item that passes another test has a place
  pub none_at : (q : X → Bool) (xs : List X) (k : ℕ) (x : X) → found (filter q xs) ≡ None → slice_get xs k ≡ Some x
      → q x ≡ true → find p (places x) ≡ None
  none_at q [] k x h e on = cc
  none_at q (y ∷ ys) zero x h e on =
      let same : y ≡ x = grind arith in
      let b : q y ≡ true = ap q same ∙ on in
      ap (λ z. find p (places z)) (sym same)
      ∙ first_none (find p (places y)) (found (filter q ys)) (sym (found-cons y (filter q ys)) ∙ ap (λ t. found (cond t (y ∷ filter q ys) (filter q ys))) (sym b) ∙ h)
  none_at q (y ∷ ys) (suc k) x h e on = none_at q ys k x (rest (q y) h) e on where
    rest : (t : Bool) → found (cond t (y ∷ filter q ys) (filter q ys)) ≡ None → found (filter q ys) ≡ None
    rest true n = later_none (find p (places y)) (found (filter q ys)) (sym (found-cons y (filter q ys)) ∙ n)
    rest false n = n

  -- where no item has a place, there is none
  pub none_of : (q : X → Bool) (x : X) (xs : List X) → find p (places x) ≡ None → found (filter q xs) ≡ None
      → found (filter q (x ∷ xs)) ≡ None
  none_of q x xs h later = at (q x) where
    at : (t : Bool) → found (cond t (x ∷ filter q xs) (filter q xs)) ≡ None
    at true = found-cons x (filter q xs) ∙ ap (λ o. option_or o (found (filter q xs))) h ∙ later
    at false = later

  -- the first is among the places of an item
  abbrev pub AtItem : List X → Y → Type 0
  AtItem xs y = (k : ℕ) × (x : X) × (slice_get xs k ≡ Some x) × (find p (places x) ≡ Some y)

  one_later : (x : X) (xs : List X) (y : Y) → AtItem xs y → AtItem (x ∷ xs) y
  one_later x xs y t = (suc t.0, t.1, t.2, t.3)

  here_or_later : (x : X) (xs rest : List X) (y : Y) (o : Option Y) → find p (places x) ≡ o
      → (found rest ≡ Some y → AtItem xs y) → option_or o (found rest) ≡ Some y → AtItem (x ∷ xs) y
  here_or_later x xs rest y None e again n = one_later x xs y (again n)
  here_or_later x xs rest y (Some w) e again n = (zero, x, refl, e ∙ n)

  pub at_some : (q : X → Bool) (xs : List X) (y : Y) → found (filter q xs) ≡ Some y → AtItem xs y
  at_some q [] y h = cc
  at_some q (x ∷ xs) y h = at (q x) (at_some q xs y) h where
    at : (t : Bool) → (found (filter q xs) ≡ Some y → AtItem xs y)
        → found (cond t (x ∷ filter q xs) (filter q xs)) ≡ Some y → AtItem (x ∷ xs) y
    at true again n = here_or_later x xs (filter q xs) y (find p (places x)) refl again (sym (found-cons x (filter q xs)) ∙ n)
    at false again n = one_later x xs y (again n)
