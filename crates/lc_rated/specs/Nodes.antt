-- The nodes of a cut as the loop holds them.
use Rattle.std.specs.Prelude.{◌≡◌, ℕ, ◌+◌, ◌-◌, ◌*◌, ◌<◌, ◌≤◌, ◌^◌, List, [], length, map, Option, Some, slice_get, slice_set, IsPermutation, Contains, ◌∷◌, ◌++◌, refl}
use Rattle.std.specs.Coded.{Coded, code_by, coded×, coded_ℕ, coded_list}
use Rattle.lc_num.specs.Channels.{black, plus}
use Rattle.lc_num.specs.declared.channels.Rgb.{Rgb}
use Rattle.lc_num.specs.contracts.channels.Rgb as colours
use Rattle.lc_heap.specs.Order.{IsFirstOf}
use Rattle.lc_heap.specs.declared.entry.Entry.{Entry}
use Rattle.lc_heap.specs.contracts.entry.Entry as entries
use Rattle.lc_rated.specs.declared.kind.LightKind.{LightKind}
use Rattle.lc_rated.specs.declared.kind.LightKind.TheVariants as kind
use Rattle.lc_rated.specs.declared.light.NodeLight.{NodeLight}
use Rattle.lc_rated.specs.contracts.light.NodeLight as lights
use Rattle.lc_rated.specs.declared.lighting.Found.{Found}
use Rattle.lc_rated.specs.declared.slot.Slot.{Slot}
use Rattle.lc_rated.specs.LitTrees.{Trees, light_of, kind_number}
use Rattle.lc_rated.specs.Cuts.{Placed, EachNode, cut_at, light_key, root_of, totals_of}

-- the entries of the heap, for each kind and number of a node the number of its slot, what the slots keep, the sums
-- over the nodes, and how many nodes there is room for
pub record NodesParts (K : Type 0) : Type 0 where
  pub entries : List Entry
  pub places : List ℕ
  pub slots : List (Slot K)
  pub sums : NodeLight
  pub room : ℕ

-- how the logic stores them
module _ {K : Type 0} where
  abbrev pub coded_slot : Coded K → Coded (Slot K)
  coded_slot c =
      code_by (K × Rgb) (coded× c colours.the_row.coded)
      (λ s. (s.kept, s.bound)) (λ p. record { kept = p.0; bound = p.1 }) (λ _. refl)

  abbrev pub coded_parts : Coded K → Coded (NodesParts K)
  coded_parts c =
      code_by (List Entry × (List ℕ × (List (Slot K) × (NodeLight × ℕ))))
      (coded× (coded_list entries.the_row.coded)
      (coded× (coded_list coded_ℕ) (coded× (coded_list (coded_slot c)) (coded× lights.the_row.coded coded_ℕ))))
      (λ n. (n.entries, (n.places, (n.slots, (n.sums, n.room)))))
      (λ p. record { entries = p.0; places = p.1.0; slots = p.1.1.0; sums = p.1.1.1.0; room = p.1.1.1.1 })
      (λ _. refl)

abbrev pub made_entry : LightKind → ℕ → NodeLight → Entry
made_entry k node light = record { key = light_key light; kind = kind_number k; node = node }

abbrev pub entry_of : Placed → Entry
entry_of p = made_entry p.kind p.node (light_of p.tree)

-- where the number of the slot of a node stands
abbrev pub place_of : LightKind → ℕ → ℕ
place_of k node = 3 * node + kind_number k

-- no light at all
abbrev pub dark : NodeLight
dark = record { est = black; bound = black }

abbrev pub lights_plus : NodeLight → NodeLight → NodeLight
lights_plus a b = record { est = plus a.est b.est; bound = plus a.bound b.bound }

module _ {K : Type 0} where
  -- the slot of the node of a kind and a number
  abbrev pub slot_of : NodesParts K → LightKind → ℕ → Option ℕ
  slot_of nodes k node = slice_get nodes.places (place_of k node)

  abbrev pub made_slot : Found K → Slot K
  made_slot found = record { kept = found.kept; bound = found.light.bound }

  -- a node has a slot, which `owner` says is its own, with its bound and what is kept of it
  pub record IsKept (keeps : LightKind → ℕ → K → Type 0) (owner : ℕ → ℕ) (places : List ℕ) (slots : List (Slot K))
      (p : Placed) : Type 0 where
    pub slot : ℕ
    pub held : Slot K
    pub at : slice_get places (place_of p.kind p.node) ≡ Some slot
    pub is : slice_get slots slot ≡ Some held
    pub mine : owner slot ≡ place_of p.kind p.node
    pub bound : held.bound ≡ (light_of p.tree).bound
    pub kept : keeps p.kind p.node held.kept

  -- the nodes of a cut are held, each with a slot of its own, and their sums
  pub record Holds (keeps : LightKind → ℕ → K → Type 0) (cut : List Placed) (nodes : NodesParts K) : Type 0 where
    pub entries : IsPermutation (map entry_of cut) nodes.entries
    pub sums : nodes.sums ≡ totals_of cut
    pub owner : ℕ → ℕ
    pub kept : EachNode (IsKept keeps owner nodes.places nodes.slots) cut

  -- the cut of the sequence that has as many nodes
  abbrev pub cut_now : List Placed → NodesParts K → List Placed
  cut_now roots nodes = cut_at roots (length nodes.entries - length roots)

  -- the nodes are those of a cut of the sequence
  pub record IsCutOf (keeps : LightKind → ℕ → K → Type 0) (roots : List Placed) (nodes : NodesParts K) : Type 0 where
    pub some : length roots ≤ length nodes.entries
    pub holds : Holds keeps (cut_now roots nodes) nodes

  -- the nodes after one came: its entry, its slot at the end, and its light in the sums. There is a place for each node
  -- of the greatest trees
  pub record IsAdded (k : LightKind) (found : Found K) (old next : NodesParts K) : Type 0 where
    pub entries : IsPermutation (made_entry k found.node found.light ∷ old.entries) next.entries
    pub all : length old.places ≡ 393216
    pub places : next.places ≡ slice_set old.places (place_of k found.node) (length old.slots)
    pub slots : next.slots ≡ old.slots ++ made_slot found ∷ []
    pub sums : next.sums ≡ lights_plus old.sums found.light
    pub room : next.room ≡ old.room

-- in each channel one part of a sum gave way to two others
pub record IsMoved (sum old left right next : Rgb) : Type 0 where
  pub r : next.r + old.r ≡ sum.r + (left.r + right.r)
  pub g : next.g + old.g ≡ sum.g + (left.g + right.g)
  pub b : next.b + old.b ≡ sum.b + (left.b + right.b)

-- this part is within the sum, and what comes of it is a number of the code
pub record CanMove (sum old left right : Rgb) : Type 0 where
  pub r : old.r ≤ sum.r
  pub g : old.g ≤ sum.g
  pub b : old.b ≤ sum.b
  pub fits_r : sum.r + (left.r + right.r) < 2 ^ 128 + old.r
  pub fits_g : sum.g + (left.g + right.g) < 2 ^ 128 + old.g
  pub fits_b : sum.b + (left.b + right.b) < 2 ^ 128 + old.b

module _ {K : Type 0} where
  -- the nodes after the first gave way to two: the left one takes over its slot, and the right one has the next
  pub record IsReplaced (k : LightKind) (slot : ℕ) (light : NodeLight) (left right : Found K)
      (old next : NodesParts K) : Type 0 where
    pub first : Entry
    pub others : List Entry
    pub leads : IsFirstOf old.entries first
    pub was : Contains old.entries first
    pub taken : IsPermutation (made_entry k left.node left.light ∷ old.entries) (first ∷ others)
    pub entries : IsPermutation (made_entry k right.node right.light ∷ others) next.entries
    pub all : length old.places ≡ 393216
    pub places : next.places
        ≡ slice_set (slice_set old.places (place_of k left.node) slot) (place_of k right.node) (length old.slots)
    pub slots : next.slots ≡ slice_set old.slots slot (made_slot left) ++ made_slot right ∷ []
    pub est : IsMoved old.sums.est light.est left.light.est right.light.est next.sums.est
    pub bound : IsMoved old.sums.bound light.bound left.light.bound right.light.bound next.sums.bound
    pub room : next.room ≡ old.room

-- each of the six numbers is small enough to be multiplied by a thousand
pub record IsSmall (sums : NodeLight) : Type 0 where
  pub est_r : sums.est.r < 2 ^ 117
  pub est_g : sums.est.g < 2 ^ 117
  pub est_b : sums.est.b < 2 ^ 117
  pub bound_r : sums.bound.r < 2 ^ 117
  pub bound_g : sums.bound.g < 2 ^ 117
  pub bound_b : sums.bound.b < 2 ^ 117

-- the roots of the kinds before this one
abbrev pub roots_before : LightKind → Trees → List Placed
roots_before kind.Omni trees = []
roots_before kind.Oriented trees = root_of kind.Omni trees.omni
roots_before kind.Sun trees = root_of kind.Omni trees.omni ++ root_of kind.Oriented trees.oriented
