-- One line of a mesh: what it gives, and the tests that it has to pass.
use Rattle.std.specs.Prelude.{ℕ, ◌+◌, ◌-◌, Bool, not, nat_lt, nat_le, List, [], ◌∷◌, ◌++◌, length, drop, filter, flat_map, map, Option, Some, None, Result, Ok, Err, ℤ, pos}
use Rattle.std.specs.List.{zip}
use Rattle.lc_num.specs.Cosines.{scaled}
use Rattle.lc_num.specs.declared.vectors.Vec3.{Vec3}
use Rattle.lc_geom.specs.Triangles.{is_flat}
use Rattle.lc_scan.specs.Fields.{field_at, keyword_in, rest, values_in}
use Rattle.lc_scan.specs.Coordinates.{is_coordinate}
use Rattle.lc_scan.specs.Names.{is_utf8}
use Rattle.lc_scan.specs.Decimal.{decimal_of, units}
use Rattle.lc_scan.specs.LineTests.{first_kind, unless}
use Rattle.lc_scan.specs.declared.fault.NumFault.{NumFault}
use Rattle.lc_obj.specs.Keywords.{keyword_of}
use Rattle.lc_obj.specs.Corners.{corner_of, corner_tests}
use Rattle.lc_obj.specs.declared.keyword.Keyword.{Keyword}
use Rattle.lc_obj.specs.declared.keyword.Keyword.TheVariants as keyword
use Rattle.lc_obj.specs.declared.fault_kind.FaultKind.{FaultKind}
use Rattle.lc_obj.specs.declared.fault_kind.FaultKind.TheVariants as kind
use Rattle.lc_obj.specs.declared.corner.Corner.{Corner}
use Rattle.lc_obj.specs.declared.mesh.Face.{Face}
use Rattle.lc_obj.specs.declared.mesh.Triple.{Triple}
use Rattle.lc_obj.specs.declared.mesh.Uv.{Uv}
use Rattle.lc_obj.specs.declared.mesh.UvTriple.{UvTriple}
use Rattle.lc_obj.specs.declared.tables.Tables.{Tables}

-- the keyword of a line says what it gives by its values
abbrev pub key : List ℕ → Keyword
key line = keyword_of (keyword_in line)

-- ---- numbers

abbrev pub number : ℕ → List (List ℕ) → ℤ
number k vs = units (decimal_of (field_at k vs))

unfoldable pub vector : List (List ℕ) → Vec3
vector vs = record { x = number 0 vs; y = number 1 vs; z = number 2 vs }

-- the first of these values as a number, or 0 where there is none
abbrev pub number_or_0 : List (List ℕ) → ℤ
number_or_0 [] = pos 0
number_or_0 (value ∷ later) = units (decimal_of value)

unfoldable pub uv : List (List ℕ) → Uv
uv vs = record { u = number 0 vs; v = number_or_0 (drop 1 vs) }

-- ---- faces

-- three where all are there
abbrev pub three_normals : Option Vec3 → Option Vec3 → Option Vec3 → Option Triple
three_normals (Some a) (Some b) (Some c) = Some (record { a = a; b = b; c = c })
three_normals (Some a) (Some b) None = None
three_normals (Some a) None c = None
three_normals None b c = None

abbrev pub three_uvs : Option Uv → Option Uv → Option Uv → Option UvTriple
three_uvs (Some a) (Some b) (Some c) = Some (record { a = a; b = b; c = c })
three_uvs (Some a) (Some b) None = None
three_uvs (Some a) None c = None
three_uvs None b c = None

-- the face of three corners
abbrev pub face : ℕ → Corner → Corner × Corner → Face
face name a bc = record {
  tri = record { a = a.place; b = bc.0.place; c = bc.1.place };
  normals = three_normals a.normal bc.0.normal bc.1.normal;
  uvs = three_uvs a.uv bc.0.uv bc.1.uv;
  name = name;
}

-- the fan around the first corner: it and each two neighbours of the others
abbrev pub fan : ℕ → List Corner → List Face
fan name [] = []
fan name (a ∷ others) = map (face name a) (zip others (drop 1 others))

-- a face whose corners lie on one line is dropped
abbrev pub is_kept : Face → Bool
is_kept f = not (is_flat f.tri)

-- the faces of these corners, under a material's name
unfoldable pub faces_in : Tables → ℕ → List (List ℕ) → List Face
faces_in given name vs = filter is_kept (fan name (map (corner_of given) vs))

-- ---- what a line gives, by its keyword

abbrev pub places_by : Keyword → List (List ℕ) → List Vec3
places_by keyword.Place vs = vector vs ∷ []
places_by _ vs = []

abbrev pub uvs_by : Keyword → List (List ℕ) → List Uv
uvs_by keyword.Uv vs = uv vs ∷ []
uvs_by _ vs = []

-- a normal is kept with the length 16384
abbrev pub normals_by : Keyword → List (List ℕ) → List Vec3
normals_by keyword.Normal vs = scaled (vector vs) 16384 ∷ []
normals_by _ vs = []

abbrev pub faces_by : Tables → ℕ → Keyword → List (List ℕ) → List Face
faces_by given name keyword.Face vs = faces_in given name vs
faces_by given name _ vs = []

-- a face of n corners becomes n - 2 triangles, flat ones counted
abbrev pub triangles_by : Keyword → List (List ℕ) → ℕ
triangles_by keyword.Face vs = length vs - 2
triangles_by _ vs = 0

-- the name of the material of the faces that follow
abbrev pub uses_by : Keyword → List ℕ → List (List ℕ)
uses_by keyword.Use line = rest line ∷ []
uses_by _ line = []

-- the file names of libraries
abbrev pub libraries_by : Keyword → List (List ℕ) → List (List ℕ)
libraries_by keyword.Library vs = vs
libraries_by _ vs = []

-- ---- the tests; each gives its kind where it fails

-- so many values stand after the keyword, or more
abbrev pub count_test : ℕ → FaultKind → List (List ℕ) → Option FaultKind
count_test least kind vs = unless (nat_le least (length vs)) kind

-- a coordinate is a number from -5000 to 5000
abbrev pub coordinate_in : Result ℤ NumFault → Option FaultKind
coordinate_in (Err e) = Some kind.Number
coordinate_in (Ok z) = unless (is_coordinate z) kind.Number

abbrev pub coordinate_test : List ℕ → Option FaultKind
coordinate_test value = coordinate_in (decimal_of value)

abbrev pub number_in : Result ℤ NumFault → Option FaultKind
number_in (Err e) = Some kind.Number
number_in (Ok z) = None

-- a number of a texture place has no range of its own
abbrev pub number_test : List ℕ → Option FaultKind
number_test value = number_in (decimal_of value)

-- with the items so far there is room for some more
abbrev pub room_test : ℕ → ℕ → FaultKind → Option FaultKind
room_test so_far more kind = unless (nat_le (so_far + more) 1000000) kind

abbrev pub coordinate_tests : List (List ℕ) → List (Option FaultKind)
coordinate_tests vs =
    coordinate_test (field_at 0 vs) ∷ coordinate_test (field_at 1 vs) ∷ coordinate_test (field_at 2 vs) ∷ []

unfoldable pub vector_tests : ℕ → List (List ℕ) → List (Option FaultKind)
vector_tests so_far vs = count_test 3 kind.Words vs ∷ (coordinate_tests vs ++ room_test so_far 1 kind.Vertices ∷ [])

-- the first of these values is a number, if there is one
abbrev pub optional_number_test : List (List ℕ) → Option FaultKind
optional_number_test [] = None
optional_number_test (value ∷ later) = number_test value

abbrev pub number_tests : List (List ℕ) → List (Option FaultKind)
number_tests vs = number_test (field_at 0 vs) ∷ optional_number_test (drop 1 vs) ∷ []

unfoldable pub uv_tests : ℕ → List (List ℕ) → List (Option FaultKind)
uv_tests so_far vs = count_test 1 kind.Words vs ∷ (number_tests vs ++ room_test so_far 1 kind.Vertices ∷ [])

-- the tests of the corners from the left
unfoldable pub corners_tests : Tables → List (List ℕ) → List (Option FaultKind)
corners_tests given vs = flat_map (corner_tests given) vs

unfoldable pub face_tests : Tables → ℕ → List (List ℕ) → List (Option FaultKind)
face_tests given so_far vs =
    count_test 3 kind.Face vs ∷ (corners_tests given vs ++ room_test so_far (length vs - 2) kind.Triangles ∷ [])

abbrev pub use_tests : List ℕ → List (Option FaultKind)
use_tests line = unless (nat_lt 0 (length (rest line))) kind.Words ∷ []

abbrev pub name_test : List ℕ → Option FaultKind
name_test name = unless (is_utf8 name) kind.Utf8

unfoldable pub library_tests : List (List ℕ) → List (Option FaultKind)
library_tests vs = count_test 1 kind.Words vs ∷ map name_test vs

-- the tests of a line in their order, after these items and so many triangles; a line of another keyword is passed over
abbrev pub line_tests : Keyword → Tables → ℕ → List ℕ → List (List ℕ) → List (Option FaultKind)
line_tests keyword.Place given triangles line vs = vector_tests (length given.places) vs
line_tests keyword.Uv given triangles line vs = uv_tests (length given.uvs) vs
line_tests keyword.Normal given triangles line vs = vector_tests (length given.normals) vs
line_tests keyword.Face given triangles line vs = face_tests given triangles vs
line_tests keyword.Use given triangles line vs = use_tests line
line_tests keyword.Library given triangles line vs = library_tests vs
line_tests keyword.FreeForm given triangles line vs = Some kind.FreeForm ∷ []
line_tests keyword.Other given triangles line vs = []

-- the kind of the first test that a line fails
unfoldable pub kind_of : Tables → ℕ → List ℕ → Option FaultKind
kind_of given triangles line = first_kind (line_tests (key line) given triangles line (values_in line))
