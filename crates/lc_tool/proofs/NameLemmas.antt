-- The folder of a file's name.
use Rattle.std.proofs.Common.{◌≡◌, ◌≢◌, ℕ, zero, suc, ◌<◌, ◌||◌, Bool, true, false, cond, List, [], ◌∷◌, length, get_or, take, refl, ◌∙◌, ap, arith, Option, Some, None, MatchOption}
use Rattle.std.specs.List.{list_any}
use Rattle.std.proofs.lemmas.Bool.Decides.{nat_tests}
use Rattle.lc_tool.specs.Outcome.{folder_of, is_slash}

slash_is : (b : ℕ) → b ≡ 47 → is_slash b ≡ true
slash_is b e = grind (arith, nat_tests)

slash_not : (b : ℕ) → b ≢ 47 → is_slash b ≡ false
slash_not b e = grind (arith, nat_tests)

-- a name with a slash somewhere
some_slash : (bs : List ℕ) (k : ℕ) → k < length bs → get_or bs k 0 ≡ 47 → list_any is_slash bs ≡ true
some_slash [] k lt e = absurd (omega arith)
some_slash (b ∷ later) zero lt e = ap (λ t. t || list_any is_slash later) (slash_is b e)
some_slash (b ∷ later) (suc k) lt e = or_true (is_slash b) (some_slash later k (omega arith) e) where
  or_true : (t : Bool) → list_any is_slash later ≡ true → (t || list_any is_slash later) ≡ true
  or_true true h = refl
  or_true false h = h

-- a name without one
no_slash : (bs : List ℕ) → ((i : ℕ) → i < length bs → get_or bs i 0 ≢ 47) → list_any is_slash bs ≡ false
no_slash [] h = refl
no_slash (b ∷ later) h = ap (λ t. t || list_any is_slash later) (slash_not b (h 0 (omega arith))) ∙ no_slash later (λ i lt. h (suc i) (omega arith))

folder-none : (bs : List ℕ) → ((i : ℕ) → i < length bs → get_or bs i 0 ≢ 47) → folder_of bs ≡ []
unfolding folder_of
folder-none [] h = refl
folder-none (b ∷ later) h = ap (λ t. cond t (b ∷ folder_of later) []) (no_slash (b ∷ later) h)

folder-last : (bs : List ℕ) (k : ℕ) → k < length bs → get_or bs k 0 ≡ 47 → ((i : ℕ) → k < i → i < length bs → get_or bs i 0 ≢ 47) → folder_of bs ≡ take (suc k) bs
unfolding folder_of
folder-last [] k lt e h = absurd (omega arith)
folder-last (b ∷ later) zero lt e h =
    ap (λ t. cond t (b ∷ folder_of later) []) (some_slash (b ∷ later) zero lt e) ∙ ap (λ l. b ∷ l) (folder-none later (λ i less. h (suc i) (omega arith) (omega arith)))
folder-last (b ∷ later) (suc k) lt e h =
    ap (λ t. cond t (b ∷ folder_of later) []) (some_slash (b ∷ later) (suc k) lt e)
    ∙ ap (λ l. b ∷ l) (folder-last later k (omega arith) e (λ i more less. h (suc i) (omega arith) (omega arith)))

-- the folder, by where the last slash is
pub folder_by : (bs : List ℕ) (r : Option ℕ) → MatchOption r ((i : ℕ) → i < length bs → get_or bs i 0 ≢ 47) (λ k. (k < length bs) × (get_or bs k 0 ≡ 47) × ((i : ℕ) → k < i → i < length bs → get_or bs i 0 ≢ 47)) → MatchOption r (folder_of bs ≡ []) (λ k. folder_of bs ≡ take (suc k) bs)
folder_by bs None h = folder-none bs h
folder_by bs (Some k) h = folder-last bs k h.0 h.1 h.2
