-- What a loop has written that writes a piece for each number below a count.
use Rattle.std.proofs.Common.{◌≡◌, ℕ, zero, suc, ◌+◌, List, [], ◌∷◌, ◌++◌, flat_map, ◌∙◌, ap, arith, append-nil, add-one}
use Rattle.std.proofs.lemmas.List.Concat.{flat_map-append}
use Rattle.std.specs.List.{range_with_len}
use Rattle.lc_make.specs.Made.{below}

range-more : (a k : ℕ) → range_with_len a (suc k) ≡ range_with_len a k ++ (a + k) ∷ []
range-more a zero = let e : a ≡ a + 0 = omega arith in ap (λ n. n ∷ []) e
range-more a (suc k) =
    let e : (a + 1) + k ≡ a + suc k = omega arith in
    ap (λ l. a ∷ l) (range-more (a + 1) k ∙ ap (λ n. range_with_len (a + 1) k ++ n ∷ []) e)

-- one piece more
pub pieces_more : (g : ℕ → List ℕ) (k : ℕ) → flat_map g (below (k + 1)) ≡ flat_map g (below k) ++ g k
pieces_more g k =
    let e : k + 1 ≡ suc k = add-one k in
    let f : 0 + k ≡ k = omega arith in
    ap (λ n. flat_map g (below n)) e ∙ ap (flat_map g) (range-more 0 k) ∙ flat_map-append g (below k) ((0 + k) ∷ [])
    ∙ ap (λ l. flat_map g (below k) ++ l) (append-nil (g (0 + k)) ∙ ap g f)
