-- The material term of a spot, and the factor of a light that is seen there.
use Rattle.std.specs.Prelude.{ℕ, ◌+◌, ◌*◌, ◌==◌, if◌then◌else◌}
use Rattle.lc_num.specs.Channels.{black, times}
use Rattle.lc_num.specs.Cosines.{cos16}
use Rattle.lc_num.specs.Powers.{pow16}
use Rattle.lc_num.specs.declared.vectors.Vec3.{Vec3}
use Rattle.lc_num.specs.declared.channels.Rgb.{Rgb}
use Rattle.lc_terms.specs.declared.spot.Spot.{Spot}

-- the diffuse colour by a cosine, and the specular colour by a highlight
abbrev pub reflected : Spot → ℕ → ℕ → Rgb
reflected spot cosine highlight = record {
  r = spot.kd.r * cosine + spot.ks.r * highlight;
  g = spot.kd.g * cosine + spot.ks.g * highlight;
  b = spot.kd.b * cosine + spot.ks.b * highlight;
}

-- the material term by the cosine to the normal and the one to the mirrored view, whose power is the highlight: nothing
-- where the light does not come from the side of the normal
unfoldable pub material_by : Spot → ℕ → ℕ → Rgb
material_by spot cosine mirrored = if cosine == 0 then black else reflected spot cosine (pow16 mirrored spot.ns)

-- the material term for light from b
abbrev pub material : Spot → Vec3 → Rgb
material spot b = material_by spot (cos16 spot.n b) (cos16 spot.r b)

-- the geometric term times the material term, for light from b that nothing blocks
abbrev pub factor : Spot → Vec3 → ℕ → Rgb
factor spot b geometry = times geometry (material spot b)
