-- Materials while their text is being read. Clauses of private functions alone speak of them.
use Rattle.std.specs.Prelude.{ℕ, List, [], ◌∷◌, ◌++◌, Option, Some, None}
use Rattle.lc_mtl.specs.Settings.{material}
use Rattle.lc_mtl.specs.declared.entry.Entry.{Entry}
use Rattle.lc_mtl.specs.declared.entry.Entry.TheVariants as entry
use Rattle.lc_mtl.specs.declared.entry.Setting.{Setting}
use Rattle.lc_mtl.specs.declared.entry.Setting.TheVariants as setting
use Rattle.lc_mtl.specs.declared.material.Material.{Material}

-- the material with this in place of what was said before
abbrev pub set : Setting → Material → Material
set (setting.Diffuse kd) m = record { name = m.name; kd = kd; ks = m.ks; ns = m.ns }
set (setting.Specular ks) m = record { name = m.name; kd = m.kd; ks = ks; ns = m.ns }
set (setting.Exponent ns) m = record { name = m.name; kd = m.kd; ks = m.ks; ns = ns }

-- the list with its last item changed, if it has one
abbrev pub on_last : {X : Type 0} → (X → X) → List X → List X
on_last change [] = []
on_last change (x ∷ []) = change x ∷ []
on_last change (x ∷ y ∷ later) = x ∷ on_last change (y ∷ later)

-- the materials with what one more line of this rest says
abbrev pub taken : Option Entry → List ℕ → List Material → List Material
taken None name before = before
taken (Some entry.Begin) name before = before ++ material name [] ∷ []
taken (Some (entry.Set setting)) name before = on_last (set setting) before
