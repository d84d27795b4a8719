-- What the code reads at a step, and the nodes after it.
use Rattle.std.proofs.Common.{◌≡◌, ℕ, zero, suc, ◌+◌, ◌-◌, ◌*◌, ◌<◌, ◌≤◌, ◌^◌, List, [], ◌∷◌, ◌++◌, map, length, take, drop, set, slice_get, Option, None, Some, Contains, IsPermutation, refl, ap, sym, subst, ◌∙◌, arith, add-one}
use Rattle.std.specs.Prelude.{IsSome, IsSomeAnd}
use Rattle.std.proofs.lemmas.List.Sorted.{length_permutation}
use Rattle.std.proofs.lemmas.Option.{none-some, same_Some, slice_get_within}
use Rattle.lc_num.specs.declared.channels.Rgb.{Rgb}
use Rattle.lc_heap.specs.Order.{IsFirstOf}
use Rattle.lc_heap.specs.declared.entry.Entry.{Entry}
use Rattle.lc_rated.specs.declared.light.NodeLight.{NodeLight}
use Rattle.lc_rated.specs.declared.lighting.Split.{Split}
use Rattle.lc_rated.specs.declared.slot.Slot.{Slot}
use Rattle.lc_rated.specs.declared.kind.LightKind.{LightKind}
use Rattle.lc_rated.specs.LitTrees.{LitTree, lit_fork, light_of, leaf_count, Trees, find, kind_number}
use Rattle.lc_rated.specs.Cuts.{Placed, EachNode, IsInOrder, greatest_key, refined, roots_of, cut_at, totals_of, AreLimited, light_key}
use Rattle.lc_rated.specs.Finding.{IsFound, IsSplit}
use Rattle.lc_rated.specs.Nodes.{NodesParts, entry_of, made_entry, made_slot, place_of, slot_of, cut_now, Holds, IsKept, IsCutOf, IsReplaced, IsMoved, CanMove}
use Rattle.lc_rated.proofs.CutSums.{EachNode-at}
use Rattle.lc_rated.proofs.CutOrder.{cut_in_order}
use Rattle.lc_rated.proofs.Permuting.{IsPermutation-two}
use Rattle.lc_rated.proofs.NodeFinding.{found_within}
use Rattle.lc_rated.proofs.NodeSteps.{Step, placed, step_of, map_around, get_map, can_move_est, can_move_bound, keys_small, moved_est, moved_bound, first_same}
use Rattle.lc_rated.proofs.Holding.{Differ, each_around, passed_on, kept_other, kept_left, kept_right, place_within}

is_found : (o : Option LitTree) (t : LitTree) → o ≡ Some t → IsSome o
is_found o t h = rw h refl

around : {A : Type 0} (xs : List A) (i : ℕ) (x : A) → slice_get xs i ≡ Some x → xs ≡ take i xs ++ x ∷ drop (i + 1) xs
around [] i x h = absurd (none-some _ h)
around (y ∷ ys) zero x h = let e : y ≡ x = same_Some _ _ h in ap (λ z. z ∷ ys) e
around (y ∷ ys) (suc i) x h =
    let d : drop (suc i + 1) (y ∷ ys) ≡ drop (i + 1) ys = rw (add-one, add-one) refl in
    rw d (ap (λ zs. y ∷ zs) (around ys i x h))

light_same : (a b : NodeLight) → a.est ≡ b.est → a.bound ≡ b.bound → a ≡ b
light_same a b he hb =
    let f : Rgb → Rgb → NodeLight = λ x y. record { est = x; bound = y } in
    ap (λ x. f x a.bound) he ∙ ap (f b.est) hb

-- the code is at a cut of the sequence, and has read its first entry and the kind of that
module _ {K : Type 0} where
  pub record IsRead (keeps : LightKind → ℕ → K → Type 0) (trees : Trees) (nodes : NodesParts K) (e : Entry) (kind : LightKind) : Type 0 where
    pub limited : AreLimited trees
    pub cut : IsCutOf keeps (roots_of trees) nodes
    pub some : 0 < greatest_key (cut_now (roots_of trees) nodes)
    pub has : Contains nodes.entries e
    pub first : IsFirstOf nodes.entries e
    pub known : (k : LightKind) → e.kind ≡ kind_number k → kind ≡ k

module _ {K : Type 0} {keeps : LightKind → ℕ → K → Type 0} {trees : Trees} where
  module _ {nodes : NodesParts K} {e : Entry} {kind : LightKind} (r : IsRead keeps trees nodes e kind) where
    abbrev count : ℕ
    count = length nodes.entries - length (roots_of trees)

    abbrev now : List Placed
    now = cut_at (roots_of trees) count

    pub step : Step trees now kind e
    step = step_of trees count nodes.entries e kind r.some r.cut.holds.entries r.has r.first r.known

    abbrev left : Placed
    left = placed kind (e.node + 1) step.left

    abbrev right : Placed
    right = placed kind (e.node + 2 * leaf_count step.left) step.right

    node_found : IsSome (find trees kind e.node)
    node_found = is_found (find trees kind e.node) (lit_fork step.light step.left step.right) step.found

    mine : IsKept keeps r.cut.holds.owner nodes.places nodes.slots (placed kind e.node (lit_fork step.light step.left step.right))
    mine = EachNode-at (IsKept keeps r.cut.holds.owner nodes.places nodes.slots) now step.at (placed kind e.node (lit_fork step.light step.left step.right)) r.cut.holds.kept step.here

    pub has_node : IsSome (find trees kind e.node)
    has_node = node_found

    pub has_slot : None ≡ slot_of nodes kind e.node → ⊥
    has_slot h = none-some _ (h ∙ mine.at)

    -- the slot that was read
    slot_is : (slot : ℕ) → Some slot ≡ slot_of nodes kind e.node → mine.slot ≡ slot
    slot_is slot h = same_Some _ _ (sym mine.at ∙ sym h)

    pub has_kept : {slot : ℕ} → Some slot ≡ slot_of nodes kind e.node → None ≡ slice_get nodes.slots slot → ⊥
    has_kept {slot} h n = none-some _ (n ∙ ap (slice_get nodes.slots) (sym (slot_is slot h)) ∙ mine.is)

    module _ {slot : ℕ} (hs : Some slot ≡ slot_of nodes kind e.node) {held : Slot K} (hh : Some held ≡ slice_get nodes.slots slot) where
      held_is : mine.held ≡ held
      held_is = same_Some _ _ (sym mine.is ∙ ap (slice_get nodes.slots) (slot_is slot hs) ∙ sym hh)

      pub slot_within : slot < length nodes.slots
      slot_within = slice_get_within nodes.slots slot held (sym hh)

      pub kept_is : keeps kind e.node held.kept
      kept_is = subst (λ (x : Slot K). keeps kind e.node x.kept) held_is mine.kept

      bound_is : held.bound ≡ step.light.bound
      bound_is = subst (λ (x : Slot K). x.bound ≡ step.light.bound) held_is mine.bound

      pub has_split : IsSomeAnd (find trees kind e.node) (λ t. IsSplit (keeps kind) e.node t None) → ⊥
      has_split h = rw step.found at h

      module _ (split : Split K) (hp : IsSomeAnd (find trees kind e.node) (λ t. IsSplit (keeps kind) e.node t (Some split))) where
        parts : (split.est ≡ step.light.est) × IsFound (keeps kind) (e.node + 1) step.left split.left × IsFound (keeps kind) (e.node + 2 * leaf_count step.left) step.right split.right
        parts = rw step.found at hp

        pub left_node : split.left.node < 131072
        left_node = rw parts.1.node (found_within trees kind (e.node + 1) step.left r.limited.few step.left_found)

        pub right_node : split.right.node < 131072
        right_node = rw parts.2.node (found_within trees kind (e.node + 2 * leaf_count step.left) step.right r.limited.few step.right_found)

        pub left_key : light_key split.left.light < 2 ^ 128
        left_key = rw parts.1.light (keys_small trees count r.limited kind e step).0

        pub right_key : light_key split.right.light < 2 ^ 128
        right_key = rw parts.2.light (keys_small trees count r.limited kind e step).1

        pub move_est : CanMove nodes.sums.est split.est split.left.light.est split.right.light.est
        move_est = rw (r.cut.holds.sums, parts.0, parts.1.light, parts.2.light) (can_move_est trees count r.limited kind e step)

        pub move_bound : CanMove nodes.sums.bound held.bound split.left.light.bound split.right.light.bound
        move_bound = rw (r.cut.holds.sums, bound_is, parts.1.light, parts.2.light) (can_move_bound trees count r.limited kind e step)

        left_entry : made_entry kind split.left.node split.left.light ≡ entry_of left
        left_entry = ap (λ n. made_entry kind n split.left.light) parts.1.node ∙ ap (made_entry kind (e.node + 1)) parts.1.light

        right_entry : made_entry kind split.right.node split.right.light ≡ entry_of right
        right_entry = ap (λ n. made_entry kind n split.right.light) parts.2.node ∙ ap (made_entry kind (e.node + 2 * leaf_count step.left)) parts.2.light

        module _ {light : NodeLight} (he : light.est ≡ split.est) (hb : light.bound ≡ held.bound) {next : NodesParts K} (h : IsReplaced kind slot light split.left split.right nodes next) where
          abbrev front : List Entry
          front = take step.at (map entry_of now)

          abbrev rest : List Entry
          rest = drop (step.at + 1) (map entry_of now)

          abbrev gone : Placed
          gone = placed kind e.node (lit_fork step.light step.left step.right)

          abbrev left_place : ℕ
          left_place = place_of kind split.left.node

          abbrev right_place : ℕ
          right_place = place_of kind split.right.node

          apart : left_place ≡ right_place → ⊥
          apart z = omega (arith, z, parts.1.node, parts.2.node)

          mine_is : r.cut.holds.owner slot ≡ place_of kind e.node
          mine_is = ap r.cut.holds.owner (sym (slot_is slot hs)) ∙ mine.mine

          next_entries : IsPermutation (map entry_of (refined now)) next.entries
          next_entries =
              let all : List Entry = map entry_of now in
              let parted : all ≡ front ++ e ∷ rest = around all step.at e (get_map entry_of now step.at gone step.here ∙ ap Some (sym step.entry)) in
              let before : IsPermutation (front ++ e ∷ rest) nodes.entries = subst (λ es. IsPermutation es nodes.entries) parted r.cut.holds.entries in
              let first : h.first ≡ e = first_same nodes.entries h.first e h.was h.leads r.has r.first in
              let taken : IsPermutation (entry_of left ∷ nodes.entries) (e ∷ h.others) = rw (left_entry, first) at h.taken in
              let put : IsPermutation (entry_of right ∷ h.others) next.entries = rw right_entry at h.entries in
              let two : IsPermutation (front ++ (entry_of left ∷ entry_of right ∷ rest)) next.entries = IsPermutation-two front rest nodes.entries h.others next.entries e (entry_of left) (entry_of right) before taken put in
              subst (λ es. IsPermutation es next.entries) (sym (ap (map entry_of) step.is ∙ map_around entry_of now step.at left right)) two

          next_sums : next.sums ≡ totals_of (refined now)
          next_sums =
              let est : IsMoved (totals_of now).est step.light.est (light_of step.left).est (light_of step.right).est next.sums.est = rw (r.cut.holds.sums, he, parts.0, parts.1.light, parts.2.light) at h.est in
              let bound : IsMoved (totals_of now).bound step.light.bound (light_of step.left).bound (light_of step.right).bound next.sums.bound = rw (r.cut.holds.sums, hb, bound_is, parts.1.light, parts.2.light) at h.bound in
              light_same next.sums (totals_of (refined now)) (moved_est trees now kind e step next.sums.est est) (moved_bound trees now kind e step next.sums.bound bound)

          abbrev next_owner : ℕ → ℕ
          next_owner = passed_on r.cut.holds.owner slot left_place (length nodes.slots) right_place

          abbrev IsKeptNext : Placed → Type 0
          IsKeptNext = IsKept keeps next_owner (set (set nodes.places left_place slot) right_place (length nodes.slots)) (set nodes.slots slot (made_slot split.left) ++ made_slot split.right ∷ [])

          stays : (q : Placed) → IsKept keeps r.cut.holds.owner nodes.places nodes.slots q → Differ q gone → Differ q left → Differ q right → IsKeptNext q
          stays q k from_gone from_left from_right =
              kept_other keeps r.cut.holds.owner nodes.places nodes.slots slot left_place right_place (made_slot split.left) (made_slot split.right) slot_within q k
              (λ z. from_left (z ∙ ap (place_of kind) parts.1.node))
              (λ z. from_right (z ∙ ap (place_of kind) parts.2.node))
              (λ z. from_gone (z ∙ mine_is))

          kept_around : EachNode IsKeptNext (take step.at now ++ (left ∷ right ∷ drop (step.at + 1) now))
          kept_around =
              each_around (IsKept keeps r.cut.holds.owner nodes.places nodes.slots) IsKeptNext now step.at gone left right step.here (cut_in_order trees count)
              (subst IsInOrder step.is (cut_in_order trees (suc count))) stays r.cut.holds.kept
              (kept_left keeps r.cut.holds.owner nodes.places nodes.slots slot left_place right_place (made_slot split.left) (made_slot split.right) slot_within left
              (ap (place_of kind) (sym parts.1.node)) (omega (arith, place_within kind split.left.node left_node, h.all)) apart (ap (λ (l : NodeLight). l.bound) parts.1.light) parts.1.kept)
              (kept_right keeps r.cut.holds.owner nodes.places nodes.slots slot left_place right_place (made_slot split.left) (made_slot split.right) slot_within right
              (ap (place_of kind) (sym parts.2.node)) (omega (arith, place_within kind split.right.node right_node, h.all)) (ap (λ (l : NodeLight). l.bound) parts.2.light) parts.2.kept)

          next_kept : EachNode (IsKept keeps next_owner next.places next.slots) (refined now)
          next_kept =
              rw (h.places, h.slots) (subst (EachNode IsKeptNext) (sym step.is) kept_around)

          pub next_length : length next.entries ≡ length nodes.entries + 1
          next_length =
              omega (arith, length_permutation (made_entry kind split.left.node split.left.light ∷ nodes.entries) (h.first ∷ h.others) h.taken, length_permutation (made_entry kind split.right.node split.right.light ∷ h.others) next.entries h.entries)

          pub next_cut : IsCutOf keeps (roots_of trees) next
          next_cut =
              let some : length (roots_of trees) ≤ length nodes.entries = r.cut.some in
              let more : length next.entries ≡ length nodes.entries + 1 = next_length in
              let counted : suc count ≡ length next.entries - length (roots_of trees) = omega arith in
              let holds : Holds keeps (refined now) next = record { entries = next_entries; sums = next_sums; owner = next_owner; kept = next_kept } in
              record {
                some = omega arith;
                holds = subst (λ n. Holds keeps (cut_at (roots_of trees) n) next) counted holds;
              }
