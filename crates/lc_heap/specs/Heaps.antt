-- Heaps of a fixed room.
use Rattle.std.specs.Prelude.{◌≡◌, ℕ, ◌+◌, ◌*◌, ◌<◌, ◌≤◌, false, List, [], length, get_or, refl}
use Rattle.std.specs.Coded.{Coded, code_by, coded×, coded_ℕ, coded_list}
use Rattle.lc_heap.specs.declared.entry.Entry.{Entry}
use Rattle.lc_heap.specs.contracts.entry.Entry as entries
use Rattle.lc_heap.specs.Order.{comes_before}

-- the entries, in no order that matters, and how many there is room for
pub record HeapParts : Type 0 where
  pub entries : List Entry
  pub room : ℕ

-- how the logic stores them
abbrev pub coded_parts : Coded HeapParts
coded_parts =
    code_by (List Entry × ℕ) (coded× (coded_list entries.the_row.coded) coded_ℕ)
    (λ h. (h.entries, h.room)) (λ p. record { entries = p.0; room = p.1 }) (λ _. refl)

-- no entry, and room for n
abbrev pub empty_heap : ℕ → HeapParts
empty_heap n = record { entries = []; room = n }

-- of the first n entries none comes before its parent: the one at p is the parent of those at 2 p + 1 and 2 p + 2
unfoldable pub IsHeapIn : List Entry → ℕ → Type 0
IsHeapIn es n =
    (p k : ℕ) (d : Entry) → 2 * p + 1 ≤ k → k ≤ 2 * p + 2 → k < n → comes_before (get_or es k d) (get_or es p d) ≡ false

abbrev pub IsHeap : List Entry → Type 0
IsHeap es = IsHeapIn es (length es)

-- no child of the entry at p comes before the one at c
unfoldable pub IsFirstChild : List Entry → ℕ → ℕ → Type 0
IsFirstChild es p c =
    (k : ℕ) (d : Entry) → 2 * p + 1 ≤ k → k ≤ 2 * p + 2 → k < length es
    → comes_before (get_or es k d) (get_or es c d) ≡ false
