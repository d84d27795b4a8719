use Rattle.std.proofs.Common.{◌≡◌, ℕ, ◌<◌, false, get_or}
use Rattle.std.specs.Str.{bytes_eq}
use Rattle.lc_mtl.specs.declared.material.Material.{Material}
use Rattle.lc_mtl.proofs.material.Materials.find.Given as goal

abbrev pub invariant-loop-at : goal.invariant-loop-at
invariant-loop-at l = (k : ℕ) (d : Material) → k < l.at → bytes_eq (get_or l.items k d).name l.name ≡ false
