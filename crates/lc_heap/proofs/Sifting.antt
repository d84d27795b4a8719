-- What holds of a heap with an open place, and how the place moves. A list of entries is here a function of places.
use Rattle.std.proofs.Common.{◌≡◌, ℕ, zero, suc, ◌+◌, ◌-◌, ◌*◌, ◌/◌, ◌<◌, ◌≤◌, ◌≢◌, inl, inr, Bool, true, false, refl, ap, ◌∙◌, arith}
use Rattle.std.proofs.lemmas.Bool.{cases_eq}
use Rattle.std.proofs.lemmas.List.Edits.{Swapped}
use Rattle.lc_heap.specs.declared.entry.Entry.{Entry}
use Rattle.lc_heap.specs.Order.{comes_before}
use Rattle.lc_heap.proofs.OrderLaws.{one_way, itself, not_before}

pub stands : (v : Bool) (a b x y : Entry) → a ≡ x → b ≡ y → comes_before x y ≡ v → comes_before a b ≡ v
stands v a b x y p q h = (λ i. comes_before (p i) (q i)) ∙ h

-- none of the first n comes before its parent
pub record Heaped (f : ℕ → Entry) (n : ℕ) : Type 0 where
  pub below : (p k : ℕ) → 2 * p + 1 ≤ k → k ≤ 2 * p + 2 → k < n → comes_before (f k) (f p) ≡ false

-- none comes before its parent but perhaps the one at j, and no child of that before the parent of that
pub record Rising (f : ℕ → Entry) (j n : ℕ) : Type 0 where
  pub others : (p k : ℕ) → 2 * p + 1 ≤ k → k ≤ 2 * p + 2 → k < n → k ≢ j → comes_before (f k) (f p) ≡ false
  pub across : (p k : ℕ) → 2 * p + 1 ≤ j → j ≤ 2 * p + 2 → 2 * j + 1 ≤ k → k ≤ 2 * j + 2 → k < n → comes_before (f k) (f p) ≡ false

-- none comes before its parent but perhaps the children of the one at j, and none of these before the parent of that
pub record Sinking (f : ℕ → Entry) (j n : ℕ) : Type 0 where
  pub others : (p k : ℕ) → 2 * p + 1 ≤ k → k ≤ 2 * p + 2 → k < n → p ≢ j → comes_before (f k) (f p) ≡ false
  pub across : (p k : ℕ) → 2 * p + 1 ≤ j → j ≤ 2 * p + 2 → 2 * j + 1 ≤ k → k ≤ 2 * j + 2 → k < n → comes_before (f k) (f p) ≡ false

module _ (f g : ℕ → Entry) (n : ℕ) where
  pub rises : (j q : ℕ) → 2 * q + 1 ≤ j → j ≤ 2 * q + 2 → j < n → Swapped f g j q → comes_before (f j) (f q) ≡ true → Rising f j n → Rising g q n
  rises j q lo hi in' s up h = record {
    others = λ p k a b below not_q.
        let v : k ≢ q = not_q in
        elim (cases_eq p q) as (λ _. comes_before (g k) (g p) ≡ false) [
          | inl e ↦ elim (cases_eq k j) as (λ _. comes_before (g k) (g p) ≡ false) [
            | inl d ↦ stands false _ _ (f q) (f j) (ap g d ∙ s.0) (ap g e ∙ s.1) (one_way (f j) (f q) up)
            | inr u ↦ stands false _ _ (f k) (f j) (s.2 k u v) (ap g e ∙ s.1) (not_before (f j) (f q) (f k) (h.others q k (omega arith) (omega arith) below u) (one_way (f j) (f q) up))
          ]
          | inr w ↦ elim (cases_eq p j) as (λ _. comes_before (g k) (g p) ≡ false) [
            | inl e ↦ stands false _ _ (f k) (f q) (s.2 k (omega arith) v) (ap g e ∙ s.0) (h.across q k lo hi (omega arith) (omega arith) below)
            | inr x ↦ stands false _ _ (f k) (f p) (s.2 k (omega arith) v) (s.2 p x w) (h.others p k a b below (omega arith))
          ]
        ];
    across = λ p k c d a b below.
        let above = h.others p q c d (omega arith) (omega arith) in
        elim (cases_eq k j) as (λ _. comes_before (g k) (g p) ≡ false) [
          | inl e ↦ stands false _ _ (f q) (f p) (ap g e ∙ s.0) (s.2 p (omega arith) (omega arith)) above
          | inr u ↦ stands false _ _ (f k) (f p) (s.2 k u (omega arith)) (s.2 p (omega arith) (omega arith)) (not_before (f p) (f q) (f k) (h.others q k a b below u) above)
        ];
  }

  pub sinks : (j c : ℕ) → 2 * j + 1 ≤ c → c ≤ 2 * j + 2 → c < n → Swapped f g j c → comes_before (f c) (f j) ≡ true → ((k : ℕ) → 2 * j + 1 ≤ k → k ≤ 2 * j + 2 → k < n → comes_before (f k) (f c) ≡ false) → Sinking f j n → Sinking g c n
  sinks j c lo hi in' s down first h = record {
    others = λ p k a b below not_c.
        let v : p ≢ c = not_c in
        elim (cases_eq p j) as (λ _. comes_before (g k) (g p) ≡ false) [
          | inl e ↦ elim (cases_eq k c) as (λ _. comes_before (g k) (g p) ≡ false) [
            | inl d ↦ stands false _ _ (f j) (f c) (ap g d ∙ s.1) (ap g e ∙ s.0) (one_way (f c) (f j) down)
            | inr u ↦ stands false _ _ (f k) (f c) (s.2 k (omega arith) u) (ap g e ∙ s.0) (first k (omega arith) (omega arith) below)
          ]
          | inr w ↦ elim (cases_eq k j) as (λ _. comes_before (g k) (g p) ≡ false) [
            | inl e ↦ stands false _ _ (f c) (f p) (ap g e ∙ s.0) (s.2 p w v) (h.across p c (omega arith) (omega arith) lo hi in')
            | inr x ↦ stands false _ _ (f k) (f p) (s.2 k x (omega arith)) (s.2 p w v) (h.others p k a b below w)
          ]
        ];
    across = λ p k x y a b below.
        let e : p ≡ j = omega arith in
        stands false _ _ (f k) (f c) (s.2 k (omega arith) (omega arith)) (ap g e ∙ s.0) (h.others c k a b below (omega arith));
  }

module _ (f : ℕ → Entry) (n : ℕ) where
  -- an entry that goes no further up
  pub rested : (j : ℕ) → ((p : ℕ) → 2 * p + 1 ≤ j → j ≤ 2 * p + 2 → comes_before (f j) (f p) ≡ false) → Rising f j n → Heaped f n
  rested j top h = record {
    below = λ p k a b in'. elim (cases_eq k j) as (λ _. comes_before (f k) (f p) ≡ false) [
      | inl e ↦ stands false _ _ (f j) (f p) (ap f e) refl (top p (omega arith) (omega arith))
      | inr u ↦ h.others p k a b in' u
    ];
  }

  -- an entry that goes no further down
  pub settled : (j : ℕ) → ((k : ℕ) → 2 * j + 1 ≤ k → k ≤ 2 * j + 2 → k < n → comes_before (f k) (f j) ≡ false) → Sinking f j n → Heaped f n
  settled j bottom h = record {
    below = λ p k a b in'. elim (cases_eq p j) as (λ _. comes_before (f k) (f p) ≡ false) [
      | inl e ↦ stands false _ _ (f k) (f j) refl (ap f e) (bottom k (omega arith) (omega arith) in')
      | inr u ↦ h.others p k a b in' u
    ];
  }

  -- the one at 0 is first
  pub topped : Heaped f n → (fuel k : ℕ) → k ≤ fuel → k < n → comes_before (f k) (f 0) ≡ false
  topped h zero k a b = let e : k ≡ 0 = omega arith in stands false _ _ (f 0) (f 0) (ap f e) refl (itself (f 0))
  topped h (suc fuel) k a b = elim (cases_eq k 0) as (λ _. comes_before (f k) (f 0) ≡ false) [
    | inl e ↦ stands false _ _ (f 0) (f 0) (ap f e) refl (itself (f 0))
    | inr u ↦
        not_before (f 0) (f ((k - 1) / 2)) (f k) (h.below ((k - 1) / 2) k (omega arith) (omega arith) b) (topped h fuel ((k - 1) / 2) (omega arith) (omega arith))
  ]
