-- Cameras, and the rays from them through the samples of their pictures.
use Rattle.std.specs.Prelude.{ℕ, ◌+◌, ◌*◌, ◌^◌, ◌≤◌, ℤ, pos, ◌+ℤ◌, ◌-ℤ◌, ◌*ℤ◌}
use Rattle.lc_num.specs.Vectors.{Within, difference, cross}
use Rattle.lc_num.specs.Cosines.{scaled}
use Rattle.lc_num.specs.declared.vectors.Vec3.{Vec3}
use Rattle.lc_view.specs.declared.camera.Camera.{Camera}
use Rattle.lc_view.specs.declared.ray.Ray.{Ray}

-- each part of the camera is within its range
pub record IsCamera (camera : Camera) : Type 0 where
  pub eye : Within 50_000_000 camera.eye
  pub at : Within 50_000_000 camera.at
  pub up : Within 50_000_000 camera.up
  pub view : (1 ≤ camera.view) × (camera.view ≤ 100_000)
  pub width : (1 ≤ camera.width) × (camera.width ≤ 4096)
  pub height : (1 ≤ camera.height) × (camera.height ≤ 4096)
  pub grid : (1 ≤ camera.grid) × (camera.grid ≤ 16)

-- a ray that triangles can be tested against: its beginning, and the end of its segment
pub record IsRay (ray : Ray) : Type 0 where
  pub e : Within 50_100_000 ray.e
  pub end : Within 320_000_000 (record { x = ray.e.x +ℤ ray.d.x; y = ray.e.y +ℤ ray.d.y; z = ray.e.z +ℤ ray.d.z })

-- ---- where the camera looks

abbrev pub forward_of : Camera → Vec3
forward_of camera = scaled (difference camera.at camera.eye) 16384

-- the right of the picture
abbrev pub right_of : Camera → Vec3
right_of camera = scaled (cross (difference camera.at camera.eye) camera.up) 16384

-- the top of the picture, at right angles to both
abbrev pub up_of : Camera → Vec3
up_of camera = scaled (cross (right_of camera) (forward_of camera)) 16384

-- ---- where a sample lies

-- how far the sample lies to the right of the picture's middle, in halves of the way to the next sample
abbrev pub offset_right : Camera → ℕ → ℕ → ℤ
offset_right camera col a = pos (2 * (col * camera.grid + a) + 1) -ℤ pos (camera.width * camera.grid)

-- how far it lies above the middle; rows and their samples are counted from the top
abbrev pub offset_up : Camera → ℕ → ℕ → ℤ
offset_up camera row b = pos (camera.height * camera.grid) -ℤ pos (2 * (row * camera.grid + b) + 1)

-- ---- the ray through it

-- three vectors, each times its number, together
abbrev pub combined : Vec3 → ℤ → Vec3 → ℤ → Vec3 → ℤ → Vec3
combined f i r j u k = record {
  x = f.x *ℤ i +ℤ r.x *ℤ j +ℤ u.x *ℤ k;
  y = f.y *ℤ i +ℤ r.y *ℤ j +ℤ u.y *ℤ k;
  z = f.z *ℤ i +ℤ r.z *ℤ j +ℤ u.z *ℤ k;
}

-- the way from the eye to the sample, of no given length
abbrev pub way_to : Camera → ℕ → ℕ → ℕ → ℕ → Vec3
way_to camera col row a b =
    combined (forward_of camera) (pos (camera.width * camera.grid * 10_000))
    (right_of camera) (offset_right camera col a *ℤ pos camera.view)
    (up_of camera) (offset_up camera row b *ℤ pos camera.view)

-- the ray from the eye through the sample in grid column a and grid row b of a pixel
unfoldable pub ray_of : Camera → ℕ → ℕ → ℕ → ℕ → Ray
ray_of camera col row a b = record { e = camera.eye; d = scaled (way_to camera col row a b) (2 ^ 28) }
