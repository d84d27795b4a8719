-- Changes of the last item of a list.
use Rattle.std.proofs.Common.{◌≡◌, List, [], ◌∷◌, ◌++◌, Option, Some, None, refl, sym, ap, ◌∙◌}
use Rattle.std.specs.List.{cons_option}
use Rattle.lc_mtl.specs.Drafts.{on_last}

module _ {X : Type 0} (change : X → X) where
  pub on_last-append : (xs : List X) (x : X) → on_last change (xs ++ x ∷ []) ≡ xs ++ change x ∷ []
  on_last-append [] x = refl
  on_last-append (y ∷ []) x = refl
  on_last-append (y ∷ z ∷ ys) x = ap (λ (zs : List X). y ∷ zs) (on_last-append (z ∷ ys) x)

  -- the last item changes
  pub last_changes : (done old : List X) (last : Option X) (x now : X) → done ++ cons_option last [] ≡ old → last ≡ Some x → now ≡ change x → done ++ now ∷ [] ≡ on_last change old
  last_changes done old last x now e l n =
      ap (λ (y : X). done ++ y ∷ []) n ∙ sym (on_last-append done x) ∙ ap (λ (o : Option X). on_last change (done ++ cons_option o [])) (sym l) ∙ ap (on_last change) e

  -- without a last item there is none
  pub none_changes : (done old : List X) (last : Option X) → done ++ cons_option last [] ≡ old → last ≡ None → done ≡ [] → done ++ cons_option last [] ≡ on_last change old
  none_changes done old last e l n =
      let none : done ++ cons_option last [] ≡ [] = ap (λ (xs : List X). xs ++ cons_option last []) n ∙ ap (λ (o : Option X). cons_option o []) l in
      none ∙ ap (on_last change) (sym none ∙ e)

  pub on_last-same : (xs : List X) → ((x : X) → change x ≡ x) → on_last change xs ≡ xs
  on_last-same [] same = refl
  on_last-same (x ∷ []) same = ap (λ (y : X). y ∷ []) (same x)
  on_last-same (x ∷ y ∷ xs) same = ap (λ (ys : List X). x ∷ ys) (on_last-same (y ∷ xs) same)
