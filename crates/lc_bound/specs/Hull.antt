-- Boxes: of one point, around two boxes, and of the vectors from a place to a box and back.
use Rattle.lc_num.specs.Vectors.{difference, greater, lesser}
use Rattle.lc_num.specs.Boxes.{SpanEnds}
use Rattle.lc_num.specs.declared.vectors.Vec3.{Vec3}

-- the box of one point
abbrev pub point_box : Vec3 → SpanEnds
point_box p = record { lo = p; hi = p }

-- the least box around two boxes
abbrev pub hull : SpanEnds → SpanEnds → SpanEnds
hull a b = record { lo = lesser a.lo b.lo; hi = greater a.hi b.hi }

-- the vectors from x to the points of the box
abbrev pub box_from : Vec3 → SpanEnds → SpanEnds
box_from x box = record { lo = difference box.lo x; hi = difference box.hi x }

-- the vectors from the points of the box to x
abbrev pub box_to : Vec3 → SpanEnds → SpanEnds
box_to x box = record { lo = difference x box.hi; hi = difference x box.lo }
