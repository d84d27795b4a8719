-- Calls that a loop makes: the calls of step 0, then those of step 1, and so on.
use Rattle.std.proofs.Common.{◌≡◌, ℕ, zero, suc, ◌+◌, ◌-◌, ◌<◌, ◌≤◌, List, [], ◌∷◌, ◌++◌, map, flat_map, length, refl, sym, ◌∙◌, ap, subst, arith, append_assoc, append-nil, add-one}
use Rattle.std.specs.List.{range_with_len}
use Rattle.lc_desk.specs.Calls.{Call, Made}
use Rattle.lc_desk.specs.Desk.{DeskState}
use Rattle.lc_desk.specs.declared.desk.PutStop.TheVariants.{Failed, Memory}
use Rattle.lc_desk.proofs.CallLemmas.{made_then, broke_before, broke_after}
use Rattle.lc_frame.specs.Stops.{Broke}
use Rattle.lc_frame.specs.declared.stop.FrameStop.{FrameStop}
use Rattle.lc_frame.specs.declared.stop.FrameStop.TheVariants as frame

-- ---- stops in a part of the calls

pub frame_before : (stop : FrameStop) (a b : List Call) (x y : DeskState) → Broke stop a x y → Broke stop (a ++ b) x y
frame_before (frame.Write slot) a b x y h = (broke_before Failed a b x y h.0, h.1)
frame_before frame.Memory a b x y h = broke_before Memory a b x y h

pub frame_after : (stop : FrameStop) (a b : List Call) (x y z : DeskState) → Made a x y → Broke stop b y z → Broke stop (a ++ b) x z
frame_after (frame.Write slot) a b x y z made h = (broke_after Failed a b x y z made h.0, h.1)
frame_after frame.Memory a b x y z made h = broke_after Memory a b x y z made h

-- ---- lists by their places

module _ {A B : Type 0} where
  pub flat_map-append : (g : A → List B) (xs ys : List A) → flat_map g (xs ++ ys) ≡ flat_map g xs ++ flat_map g ys
  flat_map-append g [] ys = refl
  flat_map-append g (x ∷ xs) ys = ap (λ l. g x ++ l) (flat_map-append g xs ys) ∙ sym (append_assoc (g x) (flat_map g xs) (flat_map g ys))

-- the numbers from a, one more
range-more : (a k : ℕ) → range_with_len a (suc k) ≡ range_with_len a k ++ (a + k) ∷ []
range-more a zero = let e : a ≡ a + 0 = omega arith in ap (λ n. n ∷ []) e
range-more a (suc k) =
    let e : (a + 1) + k ≡ a + suc k = omega arith in
    ap (λ l. a ∷ l) (range-more (a + 1) k ∙ ap (λ n. range_with_len (a + 1) k ++ n ∷ []) e)

range-split : (a k m : ℕ) → range_with_len a (k + m) ≡ range_with_len a k ++ range_with_len (a + k) m
range-split a zero m =
    let e : a ≡ a + 0 = omega arith in
    let f : 0 + m ≡ m = omega arith in
    ap (λ n. range_with_len a n) f ∙ ap (λ n. range_with_len n m) e
range-split a (suc k) m =
    let e : (a + 1) + k ≡ a + suc k = omega arith in
    let f : suc k + m ≡ suc (k + m) = omega arith in
    ap (λ n. range_with_len a n) f ∙ ap (λ l. a ∷ l) (range-split (a + 1) k m ∙ ap (λ n. range_with_len (a + 1) k ++ range_with_len n m) e)

-- what the first k steps give, and the step after them
abbrev pub firsts : {B : Type 0} → (ℕ → List B) → ℕ → List B
firsts g k = flat_map g (range_with_len 0 k)

module _ {B : Type 0} (g : ℕ → List B) where
  pub firsts-more : (k : ℕ) → firsts g (k + 1) ≡ firsts g k ++ g k
  firsts-more k = let e : k + 1 ≡ suc k = add-one k in let f : 0 + k ≡ k = omega arith in
      ap (firsts g) e ∙ ap (flat_map g) (range-more 0 k) ∙ flat_map-append g (range_with_len 0 k) ((0 + k) ∷ [])
      ∙ ap (λ l. firsts g k ++ l) (append-nil (g (0 + k)) ∙ ap g f)

  abbrev pub rest_of : ℕ → ℕ → List B
  rest_of k n = flat_map g (range_with_len (k + 1) (n - (k + 1)))

  pub firsts-split : (k n : ℕ) → k < n → firsts g n ≡ (firsts g k ++ g k) ++ rest_of k n
  firsts-split k n lt =
      let e : n ≡ (k + 1) + (n - (k + 1)) = omega arith in
      let f : 0 + (k + 1) ≡ k + 1 = omega arith in
      ap (firsts g) e ∙ ap (flat_map g) (range-split 0 (k + 1) (n - (k + 1))) ∙ flat_map-append g (range_with_len 0 (k + 1)) (range_with_len (0 + (k + 1)) (n - (k + 1)))
      ∙ ap (λ m. firsts g (k + 1) ++ flat_map g (range_with_len m (n - (k + 1)))) f ∙ ap (λ l. l ++ flat_map g (range_with_len (k + 1) (n - (k + 1)))) (firsts-more k)

-- ---- the calls of a loop

module _ (g : ℕ → List Call) where
  -- one step more
  pub loop_more : (k : ℕ) (x y z : DeskState) → Made (firsts g k) x y → Made (g k) y z → Made (firsts g (k + 1)) x z
  loop_more k x y z made step = subst (λ calls. Made calls x z) (sym (firsts-more g k)) (made_then (firsts g k) (g k) x y z made step)

  -- a stop in a step
  pub loop_broke : (stop : FrameStop) (k n : ℕ) (x y z : DeskState) → k < n → Made (firsts g k) x y → Broke stop (g k) y z → Broke stop (firsts g n) x z
  loop_broke stop k n x y z lt made broke =
      subst (λ calls. Broke stop calls x z) (sym (firsts-split g k n lt))
      (frame_before stop (firsts g k ++ g k) (rest_of g k n) x z (frame_after stop (firsts g k) (g k) x y z made broke))

-- ---- lists of what each step of a loop gives

module _ {A : Type 0} (f : ℕ → A) where
  -- what the first k steps give
  abbrev pub items : ℕ → List A
  items k = map f (range_with_len 0 k)

  map-flat : (xs : List ℕ) → map f xs ≡ flat_map (λ k. f k ∷ []) xs
  map-flat [] = refl
  map-flat (x ∷ xs) = ap (λ l. f x ∷ l) (map-flat xs)

  pub items-more : (k : ℕ) → items (k + 1) ≡ items k ++ f k ∷ []
  items-more k = map-flat (range_with_len 0 (k + 1)) ∙ firsts-more (λ n. f n ∷ []) k ∙ ap (λ l. l ++ f k ∷ []) (sym (map-flat (range_with_len 0 k)))

  pub items-split : (k n : ℕ) → k < n → items n ≡ (items k ++ f k ∷ []) ++ rest_of (λ j. f j ∷ []) k n
  items-split k n lt = map-flat (range_with_len 0 n) ∙ firsts-split (λ j. f j ∷ []) k n lt ∙ ap (λ l. (l ++ f k ∷ []) ++ rest_of (λ j. f j ∷ []) k n) (sym (map-flat (range_with_len 0 k)))

  pub items-length : (n : ℕ) → length (items n) ≡ n
  items-length n = counted 0 n where
    counted : (a m : ℕ) → length (map f (range_with_len a m)) ≡ m
    counted a zero = refl
    counted a (suc m) = ap suc (counted (a + 1) m)

  -- at the end of a loop the steps so far are all steps
  pub items-all : (k n : ℕ) → k ≤ n → n ≤ k → items k ≡ items n
  items-all k n most least = let e : k ≡ n = omega (arith, most, least) in ap items e

  -- what two functions give that are one after the other
  pub items-map : {B : Type 0} (h : A → B) (n : ℕ) → map h (items n) ≡ map (λ k. h (f k)) (range_with_len 0 n)
  items-map h n = mapped (range_with_len 0 n) where
    mapped : (xs : List ℕ) → map h (map f xs) ≡ map (λ k. h (f k)) xs
    mapped [] = refl
    mapped (x ∷ xs) = ap (λ l. h (f x) ∷ l) (mapped xs)
