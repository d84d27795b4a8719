-- How long the texts are at most.
use lib.Signed.{mag}
use Rattle.std.proofs.Common.{◌≡◌, ◌∙◌, ap, ℕ, zero, suc, ◌+◌, ◌*◌, ◌<◌, ◌≤◌, List, ◌++◌, length, length-append, flat_map, ℤ, pos, ◌+ℤ◌, arith, codes, decimal}
use Rattle.std.specs.Fmt.{signed_decimal}
use Rattle.std.specs.List.{range_with_len}
use Rattle.std.proofs.lemmas.Fmt.{length_signed_le, length-decimal-le_succ}
use Rattle.lc_make.specs.Made.{AreShort, made_of, boxes, points, below, place_bytes, corner_bytes, square_bytes, sides_bytes, box_x, box_z, box_height, box_bytes, floor_bytes, obj_bytes, light_x, light_y, light_z, light_bytes, lights_bytes, panel_bytes, sun_bytes, files_bytes, view_bytes, job_bytes, mtl_bytes}

-- pieces of at most m bytes
most_each : (f : ℕ → List ℕ) (m : ℕ) → ((k : ℕ) → length (f k) ≤ m) → (a count : ℕ) → length (flat_map f (range_with_len a count)) ≤ count * m
most_each f m each a zero = omega arith
most_each f m each a (suc count) = omega (arith, most_each f m each (a + 1) count, each a, length-append (f a) (flat_map f (range_with_len (a + 1) count)))

-- a number of at most two digits
two_digits : (z : ℤ) → mag z < 99 → length (signed_decimal z) ≤ 3
two_digits z small = length_signed_le 2 z (omega arith) (omega arith)

-- ---- places

-- pieces, one after another
three_parts : (a b c : List ℕ) → length (a ++ b ++ c) ≡ length a + length b + length c
three_parts a b c = length-append (a ++ b) c ∙ ap (λ n. n + length c) (length-append a b)

four_parts : (a b c d : List ℕ) → length (a ++ b ++ c ++ d) ≡ length a + length b + length c + length d
four_parts a b c d = length-append (a ++ b ++ c) d ∙ ap (λ n. n + length d) (three_parts a b c)

five_parts : (a b c d e : List ℕ) → length (a ++ b ++ c ++ d ++ e) ≡ length a + length b + length c + length d + length e
five_parts a b c d e = length-append (a ++ b ++ c ++ d) e ∙ ap (λ n. n + length e) (four_parts a b c d)

place_short : (x y z : ℤ) → mag x < 99 → mag y < 99 → mag z < 99 → length (place_bytes x y z) ≤ 11
unfolding place_bytes
place_short x y z sx sy sz =
    omega (arith, five_parts (signed_decimal x) (codes " ") (signed_decimal y) (codes " ") (signed_decimal z), two_digits x sx, two_digits y sy, two_digits z sz)

-- ---- the mesh

corner_short : (x y z : ℤ) → mag x < 99 → mag y < 99 → mag z < 99 → length (corner_bytes x y z) ≤ 14
unfolding corner_bytes
corner_short x y z sx sy sz = omega (arith, three_parts (codes "v ") (place_bytes x y z) (codes "\n"), place_short x y z sx sy sz)

square_short : (x y z : ℤ) → mag x < 98 → mag y < 99 → mag z < 98 → length (square_bytes x y z) ≤ 56
unfolding square_bytes
square_short x y z sx sy sz =
    let mx : mag (x +ℤ pos 1) < 99 = grind arith in
    let mz : mag (z +ℤ pos 1) < 99 = grind arith in
    let nx : mag x < 99 = omega arith in
    let nz : mag z < 99 = omega arith in
    omega (
      arith,
      four_parts (corner_bytes x y z) (corner_bytes (x +ℤ pos 1) y z) (corner_bytes (x +ℤ pos 1) y (z +ℤ pos 1)) (corner_bytes x y (z +ℤ pos 1)),
      corner_short x y z nx sy nz,
      corner_short (x +ℤ pos 1) y z mx sy nz,
      corner_short (x +ℤ pos 1) y (z +ℤ pos 1) mx sy mz,
      corner_short x y (z +ℤ pos 1) nx sy mz,
    )

box_short : (k : ℕ) → length (box_bytes k) ≤ 300
unfolding box_bytes
box_short k =
    let sx : mag (box_x k) < 98 = grind arith in
    let sz : mag (box_z k) < 98 = grind arith in
    let sy : mag (pos (box_height k)) < 99 = grind arith in
    omega (
      arith,
      three_parts (square_bytes (box_x k) (pos 0) (box_z k)) (square_bytes (box_x k) (pos (box_height k)) (box_z k)) sides_bytes,
      square_short (box_x k) (pos 0) (box_z k) sx (omega arith) sz,
      square_short (box_x k) (pos (box_height k)) (box_z k) sx sy sz,
    )

few_boxes : (n : ℕ) → boxes n ≤ 40
few_boxes n = grind arith

obj_short : (n : ℕ) → length (obj_bytes n) ≤ 262_144
unfolding obj_bytes
obj_short n = omega (arith, few_boxes n, most_each box_bytes 300 box_short 0 (boxes n), length-append floor_bytes (flat_map box_bytes (below (boxes n))))

-- ---- the lights

light_short : (i : ℕ) → length (light_bytes i) ≤ 30
unfolding light_bytes
light_short i =
    let sx : mag (light_x i) < 99 = grind arith in
    let sy : mag (light_y i) < 99 = grind arith in
    let sz : mag (light_z i) < 99 = grind arith in
    omega (arith, three_parts (codes "point ") (place_bytes (light_x i) (light_y i) (light_z i)) (codes " 0.1 0.1 0.1\n"), place_short (light_x i) (light_y i) (light_z i) sx sy sz)

few_points : (n : ℕ) → points n ≤ 4999
few_points n = grind arith

lights_short : (n : ℕ) → length (lights_bytes n) ≤ 262_144
unfolding lights_bytes
lights_short n = omega (arith, few_points n, most_each light_bytes 30 light_short 0 (points n), three_parts (flat_map light_bytes (below (points n))) panel_bytes sun_bytes)

-- ---- the scene

job_short : (n : ℕ) → n ≤ 9999 → length (job_bytes n) ≤ 262_144
unfolding job_bytes
job_short n small = omega (arith, five_parts files_bytes view_bytes (codes "seed ") (decimal n) (codes "\n"), length-decimal-le_succ n (omega arith))

mtl_short : length mtl_bytes ≤ 262_144
mtl_short = omega arith

pub made_short : (n : ℕ) → n ≤ 9999 → AreShort (made_of n)
unfolding made_of
made_short n small = record { job = job_short n small; obj = obj_short n; mtl = mtl_short; lights = lights_short n }
