-- The lights of a tree's leaves are those of its list.
use Rattle.std.proofs.Common.{◌≡◌, ℕ, suc, ◌+◌, List, [], ◌∷◌, Option, None, Some, slice_get, length, sum_by, refl, ap, sym, ◌∙◌, arith}
use Rattle.std.specs.List.{range_with_len}
use Rattle.std.proofs.lemmas.List.Sums.{sum_by-append, sum_by-cons}
use Rattle.std.proofs.lemmas.List.Sorted.{sum_by-IsPermutation}
use Rattle.lc_tree.specs.Node.{Node, leaf, fork, members, numbers}
use Rattle.lc_tree.specs.Rows.{IsNumbered, IsTree}

module _ {L : Type 0} (f : L → ℕ) where
  abbrev worth : Option L → ℕ
  worth None = 0
  worth (Some l) = f l

  -- what f gives of the light of a number
  abbrev by_number : List L → ℕ → ℕ
  by_number lights n = worth (slice_get lights n)

  sum_numbers : (lights : List L) (t : Node L) → IsNumbered lights t → sum_by f (members t) ≡ sum_by (by_number lights) (numbers t)
  sum_numbers lights (leaf n l) h =
      let e : worth (slice_get lights n) ≡ f l = ap worth h in
      omega (arith, e, sum_by-cons f l [], sum_by-cons (by_number lights) n [])
  sum_numbers lights (fork n l a b) h =
      omega (arith, sum_by-append f (members a) (members b), sum_by-append (by_number lights) (numbers a) (numbers b), sum_numbers lights a h.1, sum_numbers lights b h.2)

  sum_range : (lights xs : List L) (k : ℕ) → ((i : ℕ) → slice_get lights (k + i) ≡ slice_get xs i) → sum_by (by_number lights) (range_with_len k (length xs)) ≡ sum_by f xs
  sum_range lights [] k h = refl
  sum_range lights (x ∷ xs) k h =
      let at : k ≡ k + 0 = omega arith in
      let here : worth (slice_get lights k) ≡ f x = ap (λ i. worth (slice_get lights i)) at ∙ ap worth (h 0) in
      let rest : sum_by (by_number lights) (range_with_len (k + 1) (length xs)) ≡ sum_by f xs =
      sum_range lights xs (k + 1) (λ i. let on : (k + 1) + i ≡ k + suc i = omega arith in ap (slice_get lights) on ∙ h (suc i)) in
      omega (arith, here, rest, sum_by-cons f x xs, sum_by-cons (by_number lights) k (range_with_len (k + 1) (length xs)))

  -- a sum over the lights of the leaves is that over the list
  pub sum_members : (valid : L → Type 0) (lights : List L) (t : Node L) → IsTree valid lights t → sum_by f (members t) ≡ sum_by f lights
  sum_members valid lights t h =
      sum_numbers lights t h.numbered
      ∙ sym (sum_by-IsPermutation (by_number lights) (numbers t) (range_with_len 0 (length lights)) h.once)
      ∙ sum_range lights lights 0 (λ i. let at : 0 + i ≡ i = omega arith in ap (slice_get lights) at)
