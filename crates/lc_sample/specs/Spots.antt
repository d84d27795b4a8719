-- The spot of a hit: where the light is gathered, and how the surface sends it back.
use Rattle.std.specs.Prelude.{ℕ, ◌^◌, List, ℤ, pos, negsuc, ◌+ℤ◌, ◌-ℤ◌, ◌*ℤ◌, int_div}
use Rattle.std.specs.Int.{int_div_euclid, int_min, int_max}
use Rattle.lc_num.specs.Vectors.{difference, dot}
use Rattle.lc_num.specs.Cosines.{scaled}
use Rattle.lc_num.specs.declared.vectors.Vec3.{Vec3}
use Rattle.lc_geom.specs.Hits.{IsHitOf}
use Rattle.lc_geom.specs.declared.hit.Hit.{Hit}
use Rattle.lc_geom.specs.declared.triangle.Tri.{Tri}
use Rattle.lc_terms.specs.declared.spot.Spot.{Spot}
use Rattle.lc_view.specs.declared.ray.Ray.{Ray}
use Rattle.lc_sample.specs.Normals.{facing, normal_at}
use Rattle.lc_sample.specs.declared.surface.Surface.{Surface}

-- a hit of the ray on a triangle of the list
abbrev pub IsHit : List Tri → Ray → Hit → Type 0
IsHit ts ray hit = IsHitOf ray.e ray.d ts hit

-- ---- the place

-- the part depth/2^30 of a way, rounded down
abbrev pub part_at : ℕ → ℤ → ℤ
part_at depth way = int_div_euclid (way *ℤ pos depth) (pos (2 ^ 30))

-- the place on the ray at this depth
abbrev pub place_at : Ray → ℕ → Vec3
place_at ray depth = record {
  x = ray.e.x +ℤ part_at depth ray.d.x;
  y = ray.e.y +ℤ part_at depth ray.d.y;
  z = ray.e.z +ℤ part_at depth ray.d.z;
}

-- a coordinate, moved along 16/16384 of a normal, toward zero, and at most 50,100,000 in absolute value
abbrev pub lifted : ℤ → ℤ → ℤ
lifted at normal = int_max (negsuc 50_099_999) (int_min (pos 50_100_000) (at +ℤ int_div (normal *ℤ pos 16) (pos 16384)))

-- a place, moved off the surface
abbrev pub off_surface : Vec3 → Vec3 → Vec3
off_surface place normal =
    record { x = lifted place.x normal.x; y = lifted place.y normal.y; z = lifted place.z normal.z }

-- ---- the mirrored view

abbrev pub mirrored_part : ℤ → ℤ → ℤ → ℤ → ℤ
mirrored_part turned squared n w = pos 2 *ℤ turned *ℤ n -ℤ squared *ℤ w

-- w mirrored at a normal n, of no given length: 2(n.w)n - (n.n)w
abbrev pub mirrored : Vec3 → Vec3 → Vec3
mirrored n w = record {
  x = mirrored_part (dot n w) (dot n n) n.x w.x;
  y = mirrored_part (dot n w) (dot n n) n.y w.y;
  z = mirrored_part (dot n w) (dot n n) n.z w.z;
}

-- the view from a place to the eye, mirrored at a normal
abbrev pub mirrored_view : Vec3 → Vec3 → Vec3 → Vec3
mirrored_view eye place normal = scaled (mirrored normal (scaled (difference eye place) 16384)) 16384

-- ---- the spot

-- the spot of a place on a surface, off it on the side of the eye, with the normal n there
abbrev pub spot_off : Ray → Surface → Vec3 → Vec3 → Spot
spot_off ray surface place n = record {
  x = off_surface place (facing ray.e surface.tri);
  n = n;
  r = mirrored_view ray.e (off_surface place (facing ray.e surface.tri)) n;
  kd = surface.reflectance.kd;
  ks = surface.reflectance.ks;
  ns = surface.reflectance.ns;
}

-- the spot of a hit at this depth on a surface
unfoldable pub spot_on : Ray → ℕ → Surface → Spot
spot_on ray depth surface = spot_off ray surface (place_at ray depth) (normal_at ray surface)
