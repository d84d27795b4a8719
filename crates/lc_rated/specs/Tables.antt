-- Small trees for the tests, with one number in all channels.
use Rattle.std.specs.Prelude.{◌≡◌, ℕ, IsSomeAnd}
use Rattle.lc_num.specs.declared.channels.Rgb.{Rgb}
use Rattle.lc_rated.specs.declared.light.NodeLight.{NodeLight}
use Rattle.lc_rated.specs.declared.kind.LightKind.{LightKind}
use Rattle.lc_rated.specs.LitTrees.{LitTree, lit_leaf, lit_fork, light_of, Trees, find}

abbrev pub gray : ℕ → Rgb
gray n = record { r = n; g = n; b = n }

abbrev pub gray_light : ℕ → ℕ → NodeLight
gray_light est bound = record { est = gray est; bound = gray bound }

-- a tree of two leaves
abbrev pub two : ℕ → ℕ → ℕ → ℕ → LitTree
two est bound a b = lit_fork (gray_light est bound) (lit_leaf (gray a)) (lit_leaf (gray b))

-- that the estimate is kept of a node that is found
abbrev pub IsEst : Trees → LightKind → ℕ → ℕ → Type 0
IsEst trees kind node kept = IsSomeAnd (find trees kind node) (λ t. (light_of t).est ≡ gray kept)
