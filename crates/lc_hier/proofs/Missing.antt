-- A beam whose window at a box is shut passes all triangles in the box.
use Rattle.std.proofs.Common.{◌≡◌, ℕ, ◌+◌, ◌^◌, ◌<◌, ◌≤◌, true, ◌||◌, arith, ⊎_elim, ℤ, pos, ◌*ℤ◌, ◌≤ℤ◌, IsTrue}
use Rattle.std.specs.Prelude.{int_lt}
use Rattle.std.specs.Int.{int_min, int_max}
use Rattle.std.specs.Int.RustNames.{unsigned_abs}
use Rattle.std.proofs.lemmas.Bool.{cases_lt}
use Rattle.std.proofs.lemmas.Int.{ints}
use Rattle.lc_num.specs.declared.vectors.Vec3.{Vec3}
use Rattle.lc_geom.specs.declared.triangle.Tri.{Tri}
use Rattle.lc_geom.specs.Crossing.{crosses, side}
use Rattle.lc_geom.specs.Hits.{depth_between}
use Rattle.lc_geom.specs.Points.{IsBetween, DividesBetween}
use Rattle.lc_geom.proofs.CrossingPoint.{inside, off_start}
use Rattle.lc_hier.specs.declared.bounds.Bounds.{Bounds}
use Rattle.lc_hier.specs.declared.slab.Slab.{Slab}
use Rattle.lc_hier.specs.declared.beam.Beam.{Beam}
use Rattle.lc_hier.specs.Boxes.{IsInBounds, Holds, place_of}
use Rattle.lc_hier.specs.Passed.{IsPassed}
use Rattle.lc_hier.specs.Slabs.{Serves}
use Rattle.lc_hier.proofs.Window.{entry_of, exit_of, IsBy, IsPast, no_earlier, no_later, greater_by, lesser_past, past, in_order, last_past}

-- the last entry and the first exit of the three axes
abbrev pub entered_of : Beam → Bounds → ℤ
entered_of beam box = int_max (int_max (entry_of beam.x box.low.x box.high.x) (entry_of beam.y box.low.y box.high.y)) (entry_of beam.z box.low.z box.high.z)

abbrev pub left_of : Beam → Bounds → ℤ
left_of beam box = int_min (int_min (exit_of beam.x box.low.x box.high.x) (exit_of beam.y box.low.y box.high.y)) (exit_of beam.z box.low.z box.high.z)

-- the same, within the part of the segment that matters
abbrev near_of : Beam → Bounds → ℤ
near_of beam box = int_max (entered_of beam box) (pos 0)

abbrev far_of : Beam → Bounds → ℤ
far_of beam box = int_min (left_of beam box) beam.last

between : (box : Bounds) (v : Vec3) → IsInBounds box v → IsBetween (place_of box.low) (place_of box.high) v
between box v h = record { low_x = h.low_x; high_x = h.high_x; low_y = h.low_y; high_y = h.high_y; low_z = h.low_z; high_z = h.high_z }

-- on one axis, where the crossing divides the segment as s to r
module _ (slab : Slab) (whole s r : ℕ) (p q low high : ℤ) (serves : Serves whole p q slab) (at : DividesBetween s r low high p q) (some : 0 < s + r) where
  enters_by : IsBy (pos whole *ℤ pos s) (pos (s + r)) (entry_of slab low high)
  enters_by = no_earlier slab whole p q low high (pos s) (pos (s + r)) serves (omega (arith, ints)) (omega (arith, ints)) at.at_least at.at_most

  leaves_past : IsPast (pos whole *ℤ pos s) (pos (s + r)) (exit_of slab low high)
  leaves_past = past (pos whole *ℤ pos s) (pos (s + r)) (exit_of slab low high) (omega (arith, ints)) (no_later slab whole p q low high (pos s) (pos (s + r)) serves (omega (arith, ints)) (omega (arith, ints)) at.at_least at.at_most)

-- at a triangle in the box that the segment crosses, and not too deep
stays_open : (beam : Beam) (box : Bounds) (t : Tri) → Holds box t → crosses beam.start beam.end t ≡ true → depth_between (unsigned_abs (side t beam.start)) (unsigned_abs (side t beam.end)) ≤ beam.most → near_of beam box ≤ℤ far_of beam box
stays_open beam box t holds crossed shallow =
    let s : ℕ = unsigned_abs (side t beam.start) in
    let r : ℕ = unsigned_abs (side t beam.end) in
    let off : 0 < s = off_start beam.start beam.end t crossed in
    let some : 0 < s + r = omega arith in
    let at = inside beam.start beam.end (place_of box.low) (place_of box.high) t crossed (between box t.a holds.a) (between box t.b holds.b) (between box t.c holds.c) in
    let whole : ℕ = 2 ^ (30 + beam.shift) in
    let w : ℤ = pos whole *ℤ pos s in
    let n : ℤ = pos (s + r) in
    let not_before : IsBy w n (pos 0) = omega (arith, ints) in
    let ex : ℤ = entry_of beam.x box.low.x box.high.x in
    let ey : ℤ = entry_of beam.y box.low.y box.high.y in
    let ez : ℤ = entry_of beam.z box.low.z box.high.z in
    let lx : ℤ = exit_of beam.x box.low.x box.high.x in
    let ly : ℤ = exit_of beam.y box.low.y box.high.y in
    let lz : ℤ = exit_of beam.z box.low.z box.high.z in
    in_order w n (near_of beam box) (far_of beam box) (omega (arith, ints))
    (greater_by w n (int_max (int_max ex ey) ez) (pos 0)
    (greater_by w n (int_max ex ey) ez
    (greater_by w n ex ey
    (enters_by beam.x whole s r beam.start.x beam.end.x box.low.x box.high.x beam.x_serves at.x some)
    (enters_by beam.y whole s r beam.start.y beam.end.y box.low.y box.high.y beam.y_serves at.y some))
    (enters_by beam.z whole s r beam.start.z beam.end.z box.low.z box.high.z beam.z_serves at.z some))
    not_before)
    (lesser_past w n (int_min (int_min lx ly) lz) beam.last
    (lesser_past w n (int_min lx ly) lz
    (lesser_past w n lx ly
    (leaves_past beam.x whole s r beam.start.x beam.end.x box.low.x box.high.x beam.x_serves at.x some)
    (leaves_past beam.y whole s r beam.start.y beam.end.y box.low.y box.high.y beam.y_serves at.y some))
    (leaves_past beam.z whole s r beam.start.z beam.end.z box.low.z box.high.z beam.z_serves at.z some))
    (last_past beam.most beam.shift s r beam.last beam.last_is some shallow))

shut_off : (near far last : ℤ) → IsTrue ((int_lt far near || int_lt far (pos 0)) || int_lt last near) → int_max near (pos 0) ≤ℤ int_min far last → ⊥
shut_off near far last shut order = grind (arith, ints)

pub passes_when_shut : (beam : Beam) (box : Bounds) (near far last : ℤ) → near ≡ entered_of beam box → far ≡ left_of beam box → last ≡ beam.last → IsTrue ((int_lt far near || int_lt far (pos 0)) || int_lt last near) → (t : Tri) → Holds box t → IsPassed beam.start beam.end beam.most t
passes_when_shut beam box near far last e f g shut t holds crossed =
    ⊎_elim
    (λ (deep : beam.most < depth_between (unsigned_abs (side t beam.start)) (unsigned_abs (side t beam.end))). deep)
    (λ (shallow : depth_between (unsigned_abs (side t beam.start)) (unsigned_abs (side t beam.end)) ≤ beam.most).
    let order : near_of beam box ≤ℤ far_of beam box = stays_open beam box t holds crossed shallow in
    let turned : int_max near (pos 0) ≤ℤ int_min far last = rw (e, f, g) order in
    absurd (shut_off near far last shut turned))
    (cases_lt beam.most (depth_between (unsigned_abs (side t beam.start)) (unsigned_abs (side t beam.end))))
