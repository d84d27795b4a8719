-- What the clump and the representative of a node say of the lights below it.
use Rattle.std.specs.Prelude.{◌≡◌, ℕ, List, length, slice_get, Some, sum_by, All, Contains}
use Rattle.lc_num.specs.declared.channels.Power.{Power}
use Rattle.lc_terms.specs.Kind.{Meaning}
use Rattle.lc_tree.specs.Node.{Node, leader, leader_number, members, clump_of}

module _ {L C : Type 0} where
  -- the sum of the intensities of lights
  abbrev pub power_sum : Meaning L C → List L → Power
  power_sum m lights = record {
    r = sum_by (λ l. (m.power l).r) lights;
    g = sum_by (λ l. (m.power l).g) lights;
    b = sum_by (λ l. (m.power l).b) lights;
  }

  -- the clump of a node by one and join. It covers the lights in the leaves below, has their count and the sum of their
  -- intensities
  pub record IsClumpOf (m : Meaning L C) (t : Node L) (clump : C) : Type 0 where
    pub is : clump ≡ clump_of m.one m.join t
    pub lights : All m.valid_light (members t)
    pub count : m.count clump ≡ length (members t)
    pub covers : All (m.covers clump) (members t)
    pub total : m.total clump ≡ power_sum m (members t)

-- the number of a node's representative, which is one of the lights in the leaves below
pub record IsLeaderOf {L : Type 0} (lights : List L) (t : Node L) (number : ℕ) : Type 0 where
  pub is : number ≡ leader_number t
  pub light : slice_get lights number ≡ Some (leader t)
  pub member : Contains (members t) (leader t)
