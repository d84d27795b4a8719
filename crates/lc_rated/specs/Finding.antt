-- What is found of the nodes of light trees at a spot.
use Rattle.std.specs.Prelude.{◌≡◌, ℕ, ◌+◌, ◌*◌, Option, None, Some, IsSomeAnd}
use Rattle.lc_rated.specs.declared.lighting.Found.{Found}
use Rattle.lc_rated.specs.declared.lighting.Split.{Split}
use Rattle.lc_rated.specs.LitTrees.{LitTree, lit_leaf, lit_fork, light_of, leaf_count}

module _ {K : Type 0} where
  -- what is found of the node of number n, where `keeps` says what may be kept of the node of a number
  pub record IsFound (keeps : ℕ → K → Type 0) (n : ℕ) (t : LitTree) (f : Found K) : Type 0 where
    pub node : f.node ≡ n
    pub light : f.light ≡ light_of t
    pub kept : keeps n f.kept

  -- the root, if there is one
  abbrev pub IsRoot : (ℕ → K → Type 0) → Option LitTree → Option (Found K) → Type 0
  IsRoot keeps None r = r ≡ None
  IsRoot keeps (Some t) r = IsSomeAnd r (IsFound keeps 0 t)

  -- what the node of number n gives way to: nothing at a lit_leaf, and else its children, beside the estimate that it
  -- had
  abbrev pub IsSplit : (ℕ → K → Type 0) → ℕ → LitTree → Option (Split K) → Type 0
  IsSplit keeps n (lit_leaf est) r = r ≡ None
  IsSplit keeps n (lit_fork light left right) r =
      IsSomeAnd r (λ s. (s.est ≡ light.est) × IsFound keeps (n + 1) left s.left
      × IsFound keeps (n + 2 * leaf_count left) right s.right)
