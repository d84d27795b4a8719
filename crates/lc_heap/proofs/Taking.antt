-- What goes into a heap and comes out of it.
use Rattle.std.proofs.Common.{◌≡◌, ℕ, ◌+◌, ◌-◌, ◌<◌, ◌≤◌, false, List, [], ◌∷◌, ◌++◌, length, get_or, set, take, drop, slice_get, Contains, MatchOption, Option, IsPermutation, ap, sym, subst, ◌∙◌, refl, arith, length-append}
use Rattle.std.proofs.Math.Seq.{take-append_seam}
use Rattle.std.proofs.lemmas.List.{get_or_append_left, get_or_default, set_at}
use Rattle.std.proofs.lemmas.List.Sorted.{IsPermutation-cons, IsPermutation-refl, IsPermutation-swap, IsPermutation-sym, IsPermutation-to_front, IsPermutation-trans}
use Rattle.lc_heap.specs.declared.entry.Entry.{Entry}
use Rattle.lc_heap.specs.Order.{IsFirstOf}
use Rattle.lc_heap.specs.Heaps.{IsHeap, IsHeapIn}
use Rattle.lc_heap.proofs.Sifting.{stands, topped}
use Rattle.lc_heap.proofs.Opening.{heaped}

-- what is written through a slice of a whole list
pub put_back : (n : ℕ) (xs es : List Entry) → n ≡ length xs → take n (xs ++ drop (length xs) es) ≡ xs
put_back n xs es h = ap (λ k. take k (xs ++ drop (length xs) es)) h ∙ take-append_seam xs (drop (length xs) es)

pub heap_none : (es : List Entry) → es ≡ [] → IsHeap es
unfolding IsHeapIn
heap_none es none = λ p k d a b in'. let empty : length es ≡ 0 = ap length none in absurd (omega arith)

-- the first n entries of a longer list
pub heap_part : (es more xs : List Entry) (n : ℕ) → n ≤ length es → xs ≡ es ++ more → IsHeapIn xs n → IsHeapIn es n
unfolding IsHeapIn
heap_part es more xs n few is h = λ p k d a b in'.
    stands false _ _ _ _ (sym (ap (λ (l : List Entry). get_or l k d) is ∙ get_or_append_left es more d k (omega arith))) (sym (ap (λ (l : List Entry). get_or l p d) is ∙ get_or_append_left es more d p (omega arith))) (h p k d a b in')

pub heap_less : (es more xs : List Entry) → xs ≡ es ++ more → IsHeap xs → IsHeap es
unfolding IsHeapIn
heap_less es more xs is h =
    let long = ap length is ∙ length-append es more in
    heap_part es more xs (length es) (omega arith) is (λ p k d a b in'. h p k d a b (omega arith))

pub heap_more : (es : List Entry) (e : Entry) (xs : List Entry) → xs ≡ es ++ e ∷ [] → IsHeap es → IsHeapIn xs (length xs - 1)
unfolding IsHeapIn
heap_more es e xs is h =
    let long : length xs ≡ length es + 1 = ap length is ∙ length-append es (e ∷ []) in
    λ p k d a b in'.
    stands false _ _ _ _ (ap (λ (l : List Entry). get_or l k d) is ∙ get_or_append_left es (e ∷ []) d k (omega arith)) (ap (λ (l : List Entry). get_or l p d) is ∙ get_or_append_left es (e ∷ []) d p (omega arith)) (h p k d a b (omega arith))

pub first_is : (es : List Entry) (z : Entry) → z ≡ get_or es 0 z → IsHeap es → IsFirstOf es z
first_is es z e h = λ k d in'. stands false _ _ _ _ (get_or_default es k d z in') e (topped (λ i. get_or es i z) (length es) (heaped es z h) k k (omega arith) in')

-- the first of a list gives way to e
pub exchanged : (es : List Entry) (e z : Entry) (xs : List Entry) → 0 < length es → z ≡ get_or es 0 z → IsPermutation (set es 0 e) xs → IsPermutation (e ∷ es) (z ∷ xs)
exchanged [] e z xs some is h = absurd (omega arith)
exchanged (y ∷ ys) e z xs some is h =
    let turned : IsPermutation (e ∷ y ∷ ys) (y ∷ e ∷ ys) = IsPermutation-swap (e ∷ y ∷ ys) (y ∷ e ∷ ys) 0 1 (omega arith) (omega arith) refl in
    let out : IsPermutation (e ∷ y ∷ ys) (y ∷ xs) = IsPermutation-trans (e ∷ y ∷ ys) (y ∷ e ∷ ys) (y ∷ xs) turned (IsPermutation-cons y (e ∷ ys) xs h) in
    subst (λ (x : Entry). IsPermutation (e ∷ y ∷ ys) (x ∷ xs)) (sym is) out

-- the last of a list takes the place of the first
pub taken : (es rest : List Entry) (last z : Entry) (xs : List Entry) → es ≡ rest ++ last ∷ [] → 0 < length rest → z ≡ get_or rest 0 z → IsPermutation (set rest 0 last) xs → IsPermutation es (z ∷ xs)
taken es rest last z xs is some first h =
    let moved = IsPermutation-trans (rest ++ last ∷ []) (last ∷ rest) (z ∷ xs) (IsPermutation-to_front rest last) (exchanged rest last z xs some first h) in
    subst (λ (l : List Entry). IsPermutation l (z ∷ xs)) (sym is) moved

pub first_longer : (es rest : List Entry) (last z : Entry) → es ≡ rest ++ last ∷ [] → 0 < length rest → z ≡ get_or rest 0 z → z ≡ get_or es 0 z
first_longer es rest last z is some first = first ∙ sym (ap (λ (l : List Entry). get_or l 0 z) is ∙ get_or_append_left rest (last ∷ []) z 0 some)

-- an entry goes to the end, and then up
pub added : (es : List Entry) (e : Entry) (ys xs : List Entry) → ys ≡ es ++ e ∷ [] → IsPermutation (set ys (length ys - 1) e) xs → IsPermutation (e ∷ es) xs
added es e ys xs is h =
    let long : length ys ≡ length es + 1 = ap length is ∙ length-append es (e ∷ []) in
    let at_end : length es ≡ length ys - 1 = omega arith in
    let same : set ys (length ys - 1) e ≡ es ++ e ∷ [] = ap (λ (l : List Entry). set l (length ys - 1) e) is ∙ set_at es e [] e (length ys - 1) at_end in
    IsPermutation-trans (e ∷ es) (es ++ e ∷ []) xs (IsPermutation-sym (es ++ e ∷ []) (e ∷ es) (IsPermutation-to_front es e)) (subst (λ (l : List Entry). IsPermutation l xs) same h)

pub first_found : (es : List Entry) (r : Option Entry) → r ≡ slice_get es 0 → IsHeap es → MatchOption r (es ≡ []) (λ e. Contains es e × IsFirstOf es e)
first_found [] r is h = let none : List Entry = [] in subst (λ (o : Option Entry). MatchOption o (none ≡ none) (λ e. Contains none e × IsFirstOf none e)) (sym is) (λ _. none)
first_found (y ∷ ys) r is h =
    subst (λ (o : Option Entry). MatchOption o (y ∷ ys ≡ []) (λ e. Contains (y ∷ ys) e × IsFirstOf (y ∷ ys) e)) (sym is) ((0, omega arith, refl), first_is (y ∷ ys) y refl h)

pub one_left : (es rest : List Entry) (last : Entry) → es ≡ rest ++ last ∷ [] → length rest ≡ 0 → IsHeap es → IsPermutation es (last ∷ rest) × IsFirstOf es last
one_left es [] last is none h = (subst (λ (l : List Entry). IsPermutation l (last ∷ [])) (sym is) (IsPermutation-refl (last ∷ [])), first_is es last (sym (ap (λ (l : List Entry). get_or l 0 last) is)) h)
one_left es (y ∷ ys) last is none h = absurd (omega arith)
