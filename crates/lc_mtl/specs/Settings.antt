-- What lines say of materials.
use Rattle.std.specs.Prelude.{ℕ, List, filter_map, Option, Some, None, unwrap_or}
use Rattle.std.specs.List.{last_or}
use Rattle.lc_num.specs.declared.channels.Colour.{Colour}
use Rattle.lc_mtl.specs.declared.entry.Setting.{Setting}
use Rattle.lc_mtl.specs.declared.entry.Setting.TheVariants as setting
use Rattle.lc_mtl.specs.declared.material.Material.{Material}

-- the diffuse share, where it is said
abbrev pub diffuse : Setting → Option Colour
diffuse (setting.Diffuse kd) = Some kd
diffuse (setting.Specular ks) = None
diffuse (setting.Exponent ns) = None

-- the specular share, where it is said
abbrev pub specular : Setting → Option Colour
specular (setting.Diffuse kd) = None
specular (setting.Specular ks) = Some ks
specular (setting.Exponent ns) = None

-- the exponent, where it is said
abbrev pub exponent : Setting → Option ℕ
exponent (setting.Diffuse kd) = None
exponent (setting.Specular ks) = None
exponent (setting.Exponent ns) = Some ns

-- the same share in each channel
abbrev pub grey : ℕ → Colour
grey share = record { r = share; g = share; b = share }

-- the last of these values, or another where there is none
abbrev pub last_given : {X : Type 0} → X → List X → X
last_given otherwise given = unwrap_or (last_or None given) otherwise

-- the material of this name of which these settings are said: the last of each kind holds
abbrev pub material : List ℕ → List Setting → Material
material name said = record {
  name = name;
  kd = last_given (grey 8000) (filter_map diffuse said);
  ks = last_given (grey 0) (filter_map specular said);
  ns = last_given 0 (filter_map exponent said);
}
