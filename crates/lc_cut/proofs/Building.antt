-- The trees that are built of lights are a forest.
use Rattle.std.proofs.Common.{ℕ, arith}
use Rattle.lc_light.specs.Lights.{AreLights}
use Rattle.lc_light.specs.declared.lights.Lights.{Lights}
use Rattle.lc_words.specs.Words.{stream_word}
use Rattle.lc_bound.specs.Omni.{omni_meaning}
use Rattle.lc_bound.specs.Oriented.{oriented_meaning}
use Rattle.lc_bound.specs.Sun.{sun_meaning}
use Rattle.lc_tree.proofs.Halving.{tree_of_is}
use Rattle.lc_cut.specs.Forest.{IsForest, forest_of}

pub forest_of_is : (seed : ℕ) (lights : Lights) → AreLights lights → IsForest (forest_of seed lights)
forest_of_is seed lights h = record {
  omni = tree_of_is omni_meaning (stream_word seed 0) lights.omni h.omni (omega (arith, h.count));
  oriented = tree_of_is oriented_meaning (stream_word seed 1) lights.oriented h.oriented (omega (arith, h.count));
  sun = tree_of_is sun_meaning (stream_word seed 2) lights.sun h.sun (omega (arith, h.count));
  few = h.count;
}
