-- The tree of a list of lights by halving.
use Rattle.std.specs.Prelude.{ℕ, zero, suc, ◌+◌, ◌*◌, ◌/◌, ◌^◌, ◌==◌, nat_lt, ◌||◌, Bool, if◌then◌else◌, List, [], ◌∷◌, length, take, drop, map, Option, None, Some}
use Rattle.std.specs.List.{enumerate_from}
use Rattle.std.specs.Ordering.{int_cmp, nat_cmp, ordering_then, is_lt}
use Rattle.lc_num.specs.declared.channels.Power.{Power}
use Rattle.lc_terms.specs.Kind.{Meaning}
use Rattle.lc_tree.specs.Node.{Node, leaf, fork, leader, leader_number, clump_of}
use Rattle.lc_tree.specs.Extents.{coordinate, longest_axis}
use Rattle.lc_tree.specs.declared.axis.Axis.{Axis}
use Rattle.lc_tree.specs.declared.numbered.Numbered.{Numbered}

module _ {L : Type 0} where
  -- by coordinate on an axis, then by light number
  abbrev pub comes_before : Axis → Numbered L → Numbered L → Bool
  comes_before axis a b =
      is_lt (ordering_then (int_cmp (coordinate axis a.place) (coordinate axis b.place)) (nat_cmp a.number b.number))

-- the items in order, where a test says which of two comes first
module _ {X : Type 0} where
  abbrev pub put_in_order : (X → X → Bool) → X → List X → List X
  put_in_order before x [] = x ∷ []
  put_in_order before x (y ∷ ys) = if before y x then y ∷ put_in_order before x ys else x ∷ (y ∷ ys)

  abbrev pub in_order : (X → X → Bool) → List X → List X
  in_order before [] = []
  in_order before (x ∷ xs) = put_in_order before x (in_order before xs)

abbrev pub power_weight : Power → ℕ
power_weight p = p.r + p.g + p.b

-- the left child leads where there is no weight, or where the word falls into the left child's part of the weight
abbrev pub takes_left : ℕ → ℕ → ℕ → Bool
takes_left word wl wr = (wl + wr == 0) || nat_lt ((word * (wl + wr)) / 2 ^ 32) wl

module _ {L C : Type 0} where
  -- the sum of the three channels of a node's summed intensity
  abbrev pub weight_of : Meaning L C → Node L → ℕ
  weight_of m t = power_weight (m.total (clump_of m.one m.join t))

  -- two trees under a node whose word says which child's representative leads
  abbrev pub forked : Meaning L C → ℕ → Option (Node L) → Option (Node L) → Option (Node L)
  forked m word None b = None
  forked m word (Some a) None = None
  forked m word (Some a) (Some b) =
      let left = takes_left word (weight_of m a) (weight_of m b) in
      Some (fork (if left then leader_number a else leader_number b) (if left then leader a else leader b) a b)

  -- the tree over some of the lights, whose root has number p: the first half of them in order of the longest axis is
  -- the left child, and the rest is the right child. `fuel` is at least the number of the lights
  abbrev pub halved : Meaning L C → (ℕ → ℕ) → ℕ → ℕ → List (Numbered L) → Option (Node L)
  halved m word zero p es = None
  halved m word (suc fuel) p [] = None
  halved m word (suc fuel) p (e ∷ []) = Some (leaf e.number e.light)
  halved m word (suc fuel) p (e ∷ (f ∷ es)) =
      let all = e ∷ (f ∷ es) in
      let ordered = in_order (comes_before (longest_axis all)) all in
      let half = length all / 2 in
      forked m (word p) (halved m word fuel (p + 1) (take half ordered))
      (halved m word fuel (p + 2 * half) (drop half ordered))

  -- the lights with their numbers, which are their indices, and their places
  abbrev pub numbered : Meaning L C → List L → List (Numbered L)
  numbered m lights = map (λ p. record { number = p.0; place = m.place p.1; light = p.1 }) (enumerate_from 0 lights)

  -- the tree of a list of lights, with the words by number; none for no lights
  abbrev pub tree_of : Meaning L C → (ℕ → ℕ) → List L → Option (Node L)
  tree_of m word lights = halved m word (length lights) 0 (numbered m lights)
