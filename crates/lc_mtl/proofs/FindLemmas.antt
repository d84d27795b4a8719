-- The first material of a name.
use Rattle.std.proofs.Common.{◌≡◌, ℕ, ◌<◌, Bool, true, false, cond, List, [], ◌∷◌, length, get_or, Some, None, refl, sym, ap, ◌∙◌, arith, nat_lt}
use Rattle.std.proofs.lemmas.List.Sums.{position_or_len_is}
use Rattle.std.proofs.lemmas.Bool.{lt-ltb, le-ltb}
use Rattle.std.specs.List.{position, position_or_len}
use Rattle.std.specs.Str.{bytes_eq}
use Rattle.lc_mtl.specs.Materials.{find}
use Rattle.lc_mtl.specs.declared.material.Material.{Material}

at_place : {X : Type 0} (p : X → Bool) (xs : List X) (i : ℕ) → position_or_len p xs ≡ i → position p xs ≡ cond (nat_lt i (length xs)) (Some i) None
at_place p xs i e = ap (λ (k : ℕ). cond (nat_lt k (length xs)) (Some k) None) e

-- the material at a place is the first of the name
pub found : (name : List ℕ) (items : List Material) (i : ℕ) (d : Material) → i < length items → ((k : ℕ) → k < i → bytes_eq (get_or items k d).name name ≡ false) → bytes_eq (get_or items i d).name name ≡ true → Some i ≡ find name items
unfolding find
found name items i d lt before here =
    let p = λ (m : Material). bytes_eq m.name name in
    sym (at_place p items i (position_or_len_is p items i d (omega arith) before (λ _. here)) ∙ ap (λ (b : Bool). cond b (Some i) None) (lt-ltb i (length items) lt))

-- no material has the name
pub not_found : (name : List ℕ) (items : List Material) → ((k : ℕ) (d : Material) → k < length items → bytes_eq (get_or items k d).name name ≡ false) → None ≡ find name items
unfolding find
not_found name [] none = refl
not_found name (m ∷ items) none =
    let p = λ (n : Material). bytes_eq n.name name in
    let n = length (m ∷ items) in
    sym (at_place p (m ∷ items) n (position_or_len_is p (m ∷ items) n m (omega arith) (λ k lt. none k m lt) (λ lt. absurd (omega arith))) ∙ ap (λ (b : Bool). cond b (Some n) None) (le-ltb n n (omega arith)))
