-- Where a ray hits a triangle, and which of many it hits first.
use Rattle.std.specs.Prelude.{◌≡◌, ℕ, ◌+◌, ◌*◌, ◌/◌, ◌^◌, Bool, true, ◌&&◌, ◌||◌, nat_eq, nat_lt, nat_le, List, [], ◌∷◌, Option, Some, None, IsSomeAnd, slice_get, ◌+ℤ◌, unsigned_abs, if◌then◌else◌}
use Rattle.std.specs.List.{list_any, filter_map, enumerate_from}
use Rattle.lc_num.specs.declared.vectors.Vec3.{Vec3}
use Rattle.lc_geom.specs.declared.triangle.Tri.{Tri}
use Rattle.lc_geom.specs.declared.hit.Hit.{Hit}
use Rattle.lc_geom.specs.Crossing.{side, crosses}

-- the end of the segment from a place along a vector
abbrev pub moved : Vec3 → Vec3 → Vec3
moved e d = record { x = e.x +ℤ d.x; y = e.y +ℤ d.y; z = e.z +ℤ d.z }

-- how far along the segment from p to q the plane is met, in 1/2^30 of the segment, rounded down
abbrev pub depth_between : ℕ → ℕ → ℕ
depth_between s r = 2 ^ 30 * s / (s + r)

-- the depth at which the ray from e along d hits the triangle, where it does
unfoldable pub depth : Vec3 → Vec3 → Tri → Option ℕ
depth e d t =
    if crosses e (moved e d) t
    then Some (depth_between (unsigned_abs (side t e)) (unsigned_abs (side t (moved e d))))
    else None

-- some triangle blocks the segment
unfoldable pub blocked : Vec3 → Vec3 → List Tri → Bool
blocked p q ts = list_any (crosses p q) ts

-- ---- the nearest hit

abbrev pub hit_at : ℕ → Option ℕ → Option Hit
hit_at number None = None
hit_at number (Some depth) = Some (record { depth = depth; number = number })

-- the hits of a list of triangles, of which the first has the number n
abbrev pub hits_from : ℕ → Vec3 → Vec3 → List Tri → List Hit
hits_from n e d ts = filter_map (λ p. hit_at p.0 (depth e d p.1)) (enumerate_from n ts)

-- a hit comes first by its depth, and of one depth by its triangle's number
abbrev pub is_before : Hit → Hit → Bool
is_before a b = nat_lt a.depth b.depth || (nat_eq a.depth b.depth && nat_le a.number b.number)

abbrev pub earlier : Hit → Option Hit → Hit
earlier a None = a
earlier a (Some b) = if is_before a b then a else b

-- the one that comes first
unfoldable pub first : List Hit → Option Hit
first [] = None
first (a ∷ later) = Some (earlier a (first later))

-- the nearest hit of a ray on a list of triangles
unfoldable pub nearest : Vec3 → Vec3 → List Tri → Option Hit
nearest e d ts = first (hits_from 0 e d ts)

-- the triangle of the hit's number is one of the list, and the ray hits it at the hit's depth
abbrev pub IsHitOf : Vec3 → Vec3 → List Tri → Hit → Type 0
IsHitOf e d ts hit = IsSomeAnd (slice_get ts hit.number) (λ t. depth e d t ≡ Some hit.depth)

-- no hit of the ray on the list comes before this one
abbrev pub IsLeastOf : Vec3 → Vec3 → List Tri → Hit → Type 0
IsLeastOf e d ts hit = (other : Hit) → IsHitOf e d ts other → is_before hit other ≡ true

-- the ray hits no triangle of the list
abbrev pub HitsNone : Vec3 → Vec3 → List Tri → Type 0
HitsNone e d ts = (number : ℕ) (t : Tri) → slice_get ts number ≡ Some t → depth e d t ≡ None
