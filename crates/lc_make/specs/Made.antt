-- The texts of a scene that is made from a number: a floor with boxes on it, under point lights, a panel and a sun.
use Rattle.std.specs.Prelude.{ℕ, ◌+◌, ◌*◌, ◌%◌, ◌≤◌, ℤ, pos, ◌+ℤ◌, ◌-ℤ◌, List, ◌++◌, length, codes, decimal, flat_map}
use Rattle.std.specs.Fmt.{signed_decimal}
use Rattle.std.specs.List.{range_with_len}
use Rattle.lc_make.specs.declared.made.Made.{Made}

-- how many boxes stand on the floor
abbrev pub boxes : ℕ → ℕ
boxes n = 1 + n % 40

-- how many point lights there are
abbrev pub points : ℕ → ℕ
points n = 1000 + n % 4000

-- how many lights there are in all: those, 512 samples of a panel and a sun
abbrev pub light_count : ℕ → ℕ
light_count n = points n + 513

-- how many triangles there are: two of the floor, and two on each of the six sides of a box
abbrev pub triangle_count : ℕ → ℕ
triangle_count n = 2 + 12 * boxes n

-- how many samples the picture has, one in each of its 32 by 24 pixels
abbrev pub sample_count : ℕ
sample_count = 768

-- the numbers below a count, from 0
abbrev pub below : ℕ → List ℕ
below count = range_with_len 0 count

-- the coordinates of a place, with blanks between them
unfoldable pub place_bytes : ℤ → ℤ → ℤ → List ℕ
place_bytes x y z = signed_decimal x ++ codes " " ++ signed_decimal y ++ codes " " ++ signed_decimal z

-- ---- the job

-- the names of the files that are read, and of those that are written
abbrev pub files_bytes : List ℕ
files_bytes = codes "scene made.obj\nlights made.lights\npicture made.ppm\nbounds made.lcb\n"

-- a view of the floor from above, of 32 by 24 pixels with cuts of at most 100 nodes
abbrev pub view_bytes : List ℕ
view_bytes = codes "eye 0 12 30\nat 0 0 0\nsize 32 24\ncut 100\n"

-- the job, whose seed is the number
unfoldable pub job_bytes : ℕ → List ℕ
job_bytes n = files_bytes ++ view_bytes ++ codes "seed " ++ decimal n ++ codes "\n"

-- ---- the mesh

-- the line of a corner
unfoldable pub corner_bytes : ℤ → ℤ → ℤ → List ℕ
corner_bytes x y z = codes "v " ++ place_bytes x y z ++ codes "\n"

-- the corners of the square of side 1 from x and z on, at the height y
unfoldable pub square_bytes : ℤ → ℤ → ℤ → List ℕ
square_bytes x y z =
    corner_bytes x y z ++ corner_bytes (x +ℤ pos 1) y z ++ corner_bytes (x +ℤ pos 1) y
    (z +ℤ pos 1) ++ corner_bytes x y (z +ℤ pos 1)

-- the least x of box k, from -9 to 9
abbrev pub box_x : ℕ → ℤ
box_x k = pos (7 * k % 19) -ℤ pos 9

-- its least z, from -11 to 11
abbrev pub box_z : ℕ → ℤ
box_z k = pos (11 * k % 23) -ℤ pos 11

-- its height, from 1 to 3
abbrev pub box_height : ℕ → ℕ
box_height k = 1 + k % 3

-- the sides of a box, each by its corners counted back from the last one
abbrev pub sides_bytes : List ℕ
sides_bytes = codes "f -8 -7 -6 -5\nf -4 -3 -2 -1\nf -8 -7 -3 -4\nf -7 -6 -2 -3\nf -6 -5 -1 -2\nf -5 -8 -4 -1\n"

-- box k: the corners of its bottom, those of its top, and its sides
unfoldable pub box_bytes : ℕ → List ℕ
box_bytes k =
    square_bytes (box_x k) (pos 0) (box_z k) ++ square_bytes (box_x k) (pos (box_height k)) (box_z k) ++ sides_bytes

-- the floor, of 80 by 80, before the boxes' material
abbrev pub floor_bytes : List ℕ
floor_bytes =
    codes "mtllib made.mtl\nusemtl floor\nv -40 0 -40\nv 40 0 -40\nv 40 0 40\nv -40 0 40\nf 1 2 3 4\nusemtl box\n"

-- the floor, and then the boxes
unfoldable pub obj_bytes : ℕ → List ℕ
obj_bytes n = floor_bytes ++ flat_map box_bytes (below (boxes n))

-- ---- the materials

-- a dull floor and boxes with a highlight
abbrev pub mtl_bytes : List ℕ
mtl_bytes = codes "newmtl floor\nKd 0.7 0.7 0.7\nnewmtl box\nKd 0.5 0.3 0.2\nKs 0.2 0.2 0.2\nNs 20\n"

-- ---- the lights

-- the x of point light i, from -20 to 20
abbrev pub light_x : ℕ → ℤ
light_x i = pos (37 * i % 41) -ℤ pos 20

-- its height over the floor, from 5 to 11
abbrev pub light_y : ℕ → ℤ
light_y i = pos (5 + i % 7)

-- its z, from -21 to 21
abbrev pub light_z : ℕ → ℤ
light_z i = pos (29 * i % 43) -ℤ pos 21

-- the line of point light i
unfoldable pub light_bytes : ℕ → List ℕ
light_bytes i = codes "point " ++ place_bytes (light_x i) (light_y i) (light_z i) ++ codes " 0.1 0.1 0.1\n"

-- a panel of 4 by 4 above the boxes, of 512 samples
abbrev pub panel_bytes : List ℕ
panel_bytes = codes "area -2 15 -2 4 0 0 0 0 4 20 20 20 512\n"

-- a light from far away
abbrev pub sun_bytes : List ℕ
sun_bytes = codes "sun 1 2 1 0.2 0.2 0.2\n"

-- the point lights, and then a panel and a sun
unfoldable pub lights_bytes : ℕ → List ℕ
lights_bytes n = flat_map light_bytes (below (points n)) ++ panel_bytes ++ sun_bytes

-- ---- the scene

-- the texts of the scene of a number
unfoldable pub made_of : ℕ → Made
made_of n = record { job = job_bytes n; obj = obj_bytes n; mtl = mtl_bytes; lights = lights_bytes n }

-- none of the texts has more than 256 KiB
pub record AreShort (made : Made) : Type 0 where
  pub job : length made.job ≤ 262_144
  pub obj : length made.obj ≤ 262_144
  pub mtl : length made.mtl ≤ 262_144
  pub lights : length made.lights ≤ 262_144
