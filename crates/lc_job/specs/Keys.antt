-- The keywords of job files.
use Rattle.std.specs.Prelude.{ℕ, List, [], ◌∷◌, ◌++◌, Option, codes, find}
use Rattle.std.specs.Str.{bytes_eq}
use Rattle.lc_job.specs.declared.key.Key.{Key}
use Rattle.lc_job.specs.declared.key.Key.TheVariants as key

abbrev pub word : Key → List ℕ
word key.Scene = codes "scene"
word key.Lights = codes "lights"
word key.Picture = codes "picture"
word key.Bounds = codes "bounds"
word key.Eye = codes "eye"
word key.At = codes "at"
word key.Size = codes "size"
word key.Up = codes "up"
word key.View = codes "view"
word key.Grid = codes "grid"
word key.Seed = codes "seed"
word key.Error = codes "error"
word key.Cut = codes "cut"
word key.White = codes "white"
word key.Rule = codes "rule"

-- the keywords that have to stand, in the order in which one that is missing is told
abbrev pub required : List Key
required = key.Scene ∷ key.Lights ∷ key.Picture ∷ key.Bounds ∷ key.Eye ∷ key.At ∷ key.Size ∷ []

-- those that may be left out
abbrev pub optional : List Key
optional = key.Up ∷ key.View ∷ key.Grid ∷ key.Seed ∷ key.Error ∷ key.Cut ∷ key.White ∷ key.Rule ∷ []

-- the keyword that a field is, if it is one
unfoldable pub key_of : List ℕ → Option Key
key_of field = find (λ k. bytes_eq field (word k)) (required ++ optional)
