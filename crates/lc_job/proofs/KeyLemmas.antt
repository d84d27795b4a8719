-- A keyword and its bytes.
use Rattle.std.proofs.Common.{◌≡◌, ℕ, Bool, true, false, cond, List, [], ◌∷◌, ◌++◌, Some, refl, sym, ap, ◌∙◌}
use Rattle.std.specs.Prelude.{find}
use Rattle.std.specs.Str.{bytes_eq}
use Rattle.std.proofs.lemmas.Slice.Eq.{bytes_eq-Decides}
use Rattle.lc_job.specs.Keys.{key_of, optional, required, word}
use Rattle.lc_job.specs.declared.key.Key.{Key}
use Rattle.lc_job.specs.declared.key.Key.TheVariants as key

-- what is found passes
find_passes : {X : Type 0} (p : X → Bool) (xs : List X) (x : X) → find p xs ≡ Some x → p x ≡ true
find_passes p [] x e = absurd cc
find_passes {X = X} p (y ∷ ys) x e = by_test (p y) refl e (find_passes p ys x)
  where
    by_test : (b : Bool) → p y ≡ b → cond b (Some y) (find p ys) ≡ Some x → (find p ys ≡ Some x → p x ≡ true) → p x ≡ true
    by_test true own is later = let same : y ≡ x = cc is in ap p (sym same) ∙ own
    by_test false own is later = later is

-- a field that is a keyword has its bytes
pub key_of-found : (field : List ℕ) (k : Key) → key_of field ≡ Some k → field ≡ word k
unfolding key_of
key_of-found field k e = (bytes_eq-Decides field (word k)).0 (find_passes (λ (j : Key). bytes_eq field (word j)) (required ++ optional) k e)

pub key_of-word : (k : Key) → key_of (word k) ≡ Some k
unfolding key_of
key_of-word key.Scene = refl
key_of-word key.Lights = refl
key_of-word key.Picture = refl
key_of-word key.Bounds = refl
key_of-word key.Eye = refl
key_of-word key.At = refl
key_of-word key.Size = refl
key_of-word key.Up = refl
key_of-word key.View = refl
key_of-word key.Grid = refl
key_of-word key.Seed = refl
key_of-word key.Error = refl
key_of-word key.Cut = refl
key_of-word key.White = refl
key_of-word key.Rule = refl
