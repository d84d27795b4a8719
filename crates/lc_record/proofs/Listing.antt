-- Lists that hold every value of a kind, and the first value of a list that passes a test.
use Rattle.std.proofs.Common.{◌≡◌, ℕ, zero, suc, ◌+◌, ◌-◌, ◌<◌, ◌≤◌, Bool, true, false, cond, Some, None, List, [], ◌∷◌, map, flat_map, refl, sym, subst, arith, inl, inr}
use Rattle.std.specs.Prelude.{Contains, All, find}
use Rattle.std.specs.List.{range_with_len}
use Rattle.std.proofs.lemmas.Bool.{cases_lt}
use Rattle.std.proofs.lemmas.Option.{none-some}
use Rattle.std.proofs.lemmas.List.Elements.{All-append, All-cons, All-contains, All-head, All-map, All-nil, All-tail, All-weaker, Contains-append_left, Contains-append_right}
use Rattle.lc_record.specs.Pieces.{IsWithin}
use Rattle.lc_record.specs.Readings.{from_to}

pub here : {X : Type 0} (x : X) (xs : List X) → Contains (x ∷ xs) x
here x xs = Contains-append_left (x ∷ []) xs x (0, omega arith, refl)

pub later : {X : Type 0} (y : X) (xs : List X) (x : X) → Contains xs x → Contains (y ∷ xs) x
later y xs x h = Contains-append_right (y ∷ []) xs x h

-- ---- the numbers from one to another

range_has : (count least n : ℕ) → least ≤ n → n < least + count → Contains (range_with_len least count) n
range_has zero least n low high = absurd (omega arith)
range_has (suc count) least n low high = elim (cases_lt least n) [
  | inl above ↦ later least (range_with_len (least + 1) count) n (range_has count (least + 1) n (omega arith) (omega arith))
  | inr below ↦ subst (λ m. Contains (least ∷ range_with_len (least + 1) count) m) {x = least} {y = n} (omega arith) (here least (range_with_len (least + 1) count))
]

range_within : (count least : ℕ) → All (λ n. (least ≤ n) × (n < least + count)) (range_with_len least count)
range_within zero least = All-nil (λ n. (least ≤ n) × (n < least + zero))
range_within (suc count) least =
    All-cons (λ n. (least ≤ n) × (n < least + suc count)) least (range_with_len (least + 1) count) (omega arith, omega arith)
    (All-weaker (λ n. (least + 1 ≤ n) × (n < least + 1 + count)) (λ n. (least ≤ n) × (n < least + suc count))
    (λ n h. (omega (arith, h.0), omega (arith, h.1))) (range_with_len (least + 1) count) (range_within count (least + 1)))

pub from_to_has : (least most n : ℕ) → IsWithin least most n → Contains (from_to least most) n
unfolding from_to
from_to_has least most n (low, high) = range_has _ least n low (omega arith)

pub from_to_within : (least most : ℕ) → All (IsWithin least most) (from_to least most)
unfolding from_to
from_to_within least most =
    All-weaker (λ n. (least ≤ n) × (n < least + (most + 1 - least))) (IsWithin least most) (λ n h. (h.0, omega (arith, h.0, h.1)))
    (range_with_len least (most + 1 - least)) (range_within (most + 1 - least) least)

-- ---- lists made of lists

module _ {X Y : Type 0} where
  pub flat_map_has : (f : X → List Y) (xs : List X) (x : X) (y : Y) → Contains xs x → Contains (f x) y → Contains (flat_map f xs) y
  flat_map_has f xs x y h k = All-contains (λ z. (w : Y) → Contains (f z) w → Contains (flat_map f xs) w) xs x (all xs) h y k where
    all : (zs : List X) → All (λ z. (w : Y) → Contains (f z) w → Contains (flat_map f zs) w) zs
    all [] = All-nil (λ z. (w : Y) → Contains (f z) w → Contains (flat_map f []) w)
    all (z ∷ zs) =
        All-cons (λ v. (w : Y) → Contains (f v) w → Contains (flat_map f (z ∷ zs)) w) z zs (Contains-append_left (f z) (flat_map f zs))
        (All-weaker (λ v. (w : Y) → Contains (f v) w → Contains (flat_map f zs) w) (λ v. (w : Y) → Contains (f v) w → Contains (flat_map f (z ∷ zs)) w)
        (λ v in_rest w of. Contains-append_right (f z) (flat_map f zs) w (in_rest w of)) zs (all zs))

  pub map_has : (f : X → Y) (xs : List X) (x : X) → Contains xs x → Contains (map f xs) (f x)
  map_has f xs x h = All-contains (λ z. Contains (map f xs) (f z)) xs x (all xs) h where
    all : (zs : List X) → All (λ z. Contains (map f zs) (f z)) zs
    all [] = All-nil (λ z. Contains (map f []) (f z))
    all (z ∷ zs) =
        All-cons (λ v. Contains (map f (z ∷ zs)) (f v)) z zs (here (f z) (map f zs))
        (All-weaker (λ v. Contains (map f zs) (f v)) (λ v. Contains (map f (z ∷ zs)) (f v)) (λ v. later (f z) (map f zs) (f v)) zs (all zs))

  pub flat_map_all : (P : Y → Type 0) (Q : X → Type 0) (f : X → List Y) (xs : List X) → All Q xs → ((x : X) → Q x → All P (f x)) → All P (flat_map f xs)
  flat_map_all P Q f [] all each = All-nil P
  flat_map_all P Q f (x ∷ xs) all each =
      All-append P (f x) (flat_map f xs) (each x (All-head Q x xs all)) (flat_map_all P Q f xs (All-tail Q x xs all) each)

  pub map_all : (P : Y → Type 0) (Q : X → Type 0) (f : X → Y) (xs : List X) → All Q xs → ((x : X) → Q x → P (f x)) → All P (map f xs)
  map_all P Q f xs all each = All-map P f xs (All-weaker Q (λ x. P (f x)) each xs all)

-- ---- the first value that passes a test

module _ {X : Type 0} (test : X → Bool) where
  pub find_some : (P : X → Type 0) (xs : List X) (x : X) → All P xs → find test xs ≡ Some x → P x × (test x ≡ true)
  find_some P [] x all e = absurd (none-some x e)
  find_some P (y ∷ ys) x all e = at (test y) refl (find_some P ys x (All-tail P y ys all)) e where
    at : (t : Bool) → test y ≡ t → (find test ys ≡ Some x → P x × (test x ≡ true)) → cond t (Some y) (find test ys) ≡ Some x → P x × (test x ≡ true)
    at true on others same = let is : y ≡ x = cc in subst (λ z. P z × (test z ≡ true)) is (All-head P y ys all, on)
    at false off others more = others more

  pub find_none : (xs : List X) → find test xs ≡ None → All (λ x. test x ≡ false) xs
  find_none [] e = All-nil (λ x. test x ≡ false)
  find_none (y ∷ ys) e = at (test y) refl (find_none ys) e where
    at : (t : Bool) → test y ≡ t → (find test ys ≡ None → All (λ x. test x ≡ false) ys) → cond t (Some y) (find test ys) ≡ None → All (λ x. test x ≡ false) (y ∷ ys)
    at true on others some = absurd (none-some y (sym some))
    at false off others more = All-cons (λ x. test x ≡ false) y ys off (others more)
