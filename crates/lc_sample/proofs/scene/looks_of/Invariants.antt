use Rattle.std.proofs.Common.{◌≡◌, map, take}
use Rattle.lc_sample.specs.Surfaces.{look_of}
use Rattle.lc_sample.proofs.scene.looks_of.Given as goal

abbrev pub invariant-loop-name : goal.invariant-loop-name
invariant-loop-name l = l.looks.items ≡ map (look_of l.materials.items) (take l.name-index l.names)
