-- The first hit of those on the triangles so far and one on the next triangle. Clauses of private functions alone speak
-- of it.
use Rattle.std.specs.Prelude.{ℕ, nat_le, Option, Some, None, if◌then◌else◌}
use Rattle.lc_geom.specs.declared.hit.Hit.{Hit}

-- of one depth the earlier triangle's hit comes first
abbrev pub nearer : Option Hit → Hit → Hit
nearer None hit = hit
nearer (Some best) hit = if nat_le best.depth hit.depth then best else hit

abbrev pub sooner : Option Hit → ℕ → Option ℕ → Option Hit
sooner best number None = best
sooner best number (Some depth) = Some (nearer best (record { depth = depth; number = number }))
