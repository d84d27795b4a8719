-- The rays through all samples of a picture, in the order of its rows, pixels and samples.
use Rattle.std.specs.Prelude.{ℕ, ◌*◌, ◌/◌, ◌%◌, List, map, flat_map}
use Rattle.std.specs.List.{range_with_len}
use Rattle.lc_view.specs.Camera.{ray_of}
use Rattle.lc_view.specs.declared.camera.Camera.{Camera}
use Rattle.lc_view.specs.declared.ray.Ray.{Ray}

-- the ray of sample k of a pixel, which stands in grid row k / grid and grid column k mod grid
abbrev pub ray_at : Camera → ℕ → ℕ → ℕ → Ray
ray_at camera row col k = ray_of camera col row (k % camera.grid) (k / camera.grid)

-- the samples of a pixel, by rows of its grid from the top and columns from the left
unfoldable pub pixel_rays : Camera → ℕ → ℕ → List Ray
pixel_rays camera row col = map (ray_at camera row col) (range_with_len 0 (camera.grid * camera.grid))

-- the pixels of a row from the left
unfoldable pub row_rays : Camera → ℕ → List (List Ray)
row_rays camera row = map (pixel_rays camera row) (range_with_len 0 camera.width)

-- the rows of a picture from the top
unfoldable pub picture_rays : Camera → List (List (List Ray))
picture_rays camera = map (row_rays camera) (range_with_len 0 camera.height)

-- lists, one after another
abbrev pub flat : {A : Type 0} → List (List A) → List A
flat lists = flat_map (λ list. list) lists

-- the rays of all samples: the rows of the picture from the top, of each its pixels from the left, of each the rows
-- of its grid from the top, of each its columns from the left
unfoldable pub sample_rays : Camera → List Ray
sample_rays camera = flat (flat (picture_rays camera))

-- how many samples a picture has
abbrev pub sample_count : Camera → ℕ
sample_count camera = camera.width * camera.height * (camera.grid * camera.grid)
