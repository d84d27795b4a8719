-- the rows of a tree, and the tree of rows
use Rattle.std.specs.Prelude.{◌≡◌, ℕ, ◌+◌, ◌==◌, if◌then◌else◌, List, [], ◌∷◌, ◌++◌, Option, None, Some, refl, slice_get, get_or, length, map, take, ◌<◌, ◌≤◌, ◌⊎◌, MatchOption, IsPermutation, All, false}
use Rattle.std.specs.List.{filter, range_with_len}
use Rattle.std.proofs.Common.{ap, ◌∙◌, arith}
use Rattle.std.proofs.lemmas.List.{append_assoc}
use Rattle.std.proofs.lemmas.Bool.Decides.{nat_tests}
use Rattle.lc_tree.specs.declared.row.Row.{Row}
use Rattle.lc_tree.specs.Node.{Node, Kept, leaf, fork, leaf_count, node_count, clump_of, joined, first, leader, leader_number, numbers}

pub leaves_positive : {L : Type 0} → (t : Node L) → 0 < leaf_count t
leaves_positive (leaf n l) = omega arith
leaves_positive (fork n l a b) = omega (arith, leaves_positive a)

leaves_some : {L : Type 0} → (t : Node L) → (leaf_count t == 0) ≡ false
leaves_some t = let some : 0 < leaf_count t = leaves_positive t in grind (arith, nat_tests)

module _ {C : Type 0} where
  -- the light numbers of the leaves' rows
  abbrev pub leaf_numbers : List (Row C) → List ℕ
  leaf_numbers rows = map (λ r. r.leader) (filter (λ r. r.left == 0) rows)

  -- the light numbers of the leaves, and for each row how many leaves stand before it
  pub record IsListed (rows : List (Row C)) (order firsts : List ℕ) : Type 0 where
    pub order_is : order ≡ leaf_numbers rows
    pub each : length firsts ≡ length rows
    pub firsts_are : (k : ℕ) → k < length rows → get_or firsts k 0 ≡ length (leaf_numbers (take k rows))

module _ {L C : Type 0} where
  abbrev pub grown : Option L → Row C → List (Node L) → List (Node L)
  grown None r stack = stack
  grown (Some l) r stack = if r.left == 0 then leaf r.leader l ∷ stack else joined r.leader l stack

  abbrev pub read : List L → List (Row C) → List (Node L)
  read lights [] = []
  read lights (r ∷ rs) = grown (slice_get lights r.leader) r (read lights rs)

  -- the tree that rows stand for
  abbrev pub read_rows : List L → List (Row C) → Option (Node L)
  read_rows lights rows = first (read lights rows)

  -- the row of a node
  abbrev pub row_of : (L → C) → (C → C → C) → Node L → Row C
  row_of one join (leaf n l) = record { clump = one l; leader = n; left = 0; count = 1 }
  row_of one join (fork n l a b) =
      record {
        clump = join (clump_of one join a) (clump_of one join b);
        leader = n;
        left = leaf_count a;
        count = leaf_count a + leaf_count b;
      }

  -- the rows of a tree, in order of the nodes' numbers
  abbrev pub rows_of : (L → C) → (C → C → C) → Node L → List (Row C)
  rows_of one join (leaf n l) = row_of one join (leaf n l) ∷ []
  rows_of one join (fork n l a b) = row_of one join (fork n l a b) ∷ (rows_of one join a ++ rows_of one join b)

-- what holds of a tree over these lights
module _ {L : Type 0} where
  -- each number is that of its light
  abbrev pub IsNumbered : List L → Node L → Type 0
  IsNumbered lights (leaf n l) = slice_get lights n ≡ Some l
  IsNumbered lights (fork n l a b) = (slice_get lights n ≡ Some l) × IsNumbered lights a × IsNumbered lights b

  -- the representative of an inner node is that of a child
  abbrev pub IsLed : Node L → Type 0
  IsLed (leaf n l) = Unit {0}
  IsLed (fork n l a b) =
      (((n ≡ leader_number a) × (l ≡ leader a)) ⊎ ((n ≡ leader_number b) × (l ≡ leader b))) × IsLed a × IsLed b

  -- a tree over valid lights, in which each light of the list stands in exactly one leaf
  pub record IsTree (valid : L → Type 0) (lights : List L) (t : Node L) : Type 0 where
    pub numbered : IsNumbered lights t
    pub once : IsPermutation (numbers t) (range_with_len 0 (length lights))
    pub led : IsLed t
    pub valid_lights : All valid lights
    pub few : length lights ≤ 65536

  -- a tree, unless there are no lights
  abbrev pub IsTreeIf : (L → Type 0) → Kept L → Type 0
  IsTreeIf valid v = MatchOption v.root (v.lights ≡ []) (λ t. IsTree valid v.lights t)

module _ {L C : Type 0} where
  -- the rows are those of a tree
  pub record IsLaid (valid : L → Type 0) (one : L → C) (join : C → C → C) (lights : List L) (rows : List (Row C))
      (t : Node L) : Type 0 where
    pub rows_are : rows ≡ rows_of one join t
    pub tree : IsTree valid lights t

  abbrev pub IsLaidIf : (L → Type 0) → (L → C) → (C → C → C) → List L → List (Row C) → Type 0
  IsLaidIf valid one join lights rows =
      MatchOption (read_rows lights rows) ((rows ≡ []) × (lights ≡ [])) (λ t. IsLaid valid one join lights rows t)

  -- the tree of the rows of a tree
  pub read-rows_of : (one : L → C) (join : C → C → C) (lights : List L) (t : Node L) (rs : List (Row C))
      → IsNumbered lights t → read lights (rows_of one join t ++ rs) ≡ t ∷ read lights rs
  read-rows_of one join lights (leaf n l) rs h = rw h refl
  read-rows_of one join lights (fork n l a b) rs h =
      let some : (leaf_count a == 0) ≡ false = leaves_some a in
      let e : read lights ((rows_of one join a ++ rows_of one join b) ++ rs) ≡ a ∷ (b ∷ read lights rs) =
      ap (read lights) (append_assoc (rows_of one join a) (rows_of one join b) rs)
      ∙ read-rows_of one join lights a (rows_of one join b ++ rs) h.1
      ∙ ap (λ us. a ∷ us) (read-rows_of one join lights b rs h.2) in
      rw (h.0, some, e) refl

  -- the row of a node, and what holds of the node
  pub record IsRowOf (valid : L → Type 0) (one : L → C) (join : C → C → C) (lights : List L) (p : ℕ) (t : Node L)
      (r : Row C) : Type 0 where
    pub is : r ≡ row_of one join t
    pub room : p + node_count t ≤ 131072
    pub numbered : IsNumbered lights t
    pub led : IsLed t
    pub valid_lights : All valid lights
