-- The corners of a face: their four forms, and the items that their indices name.
use Rattle.std.specs.Prelude.{ℕ, ◌-◌, ◌≤◌, Bool, ◌==◌, nat_lt, List, [], ◌∷◌, length, drop, All, Option, Some, None, option_map, Result, Ok, Err, pos, if◌then◌else◌, slice_index, slice_index_or}
use Rattle.std.specs.List.{slice_split}
use Rattle.lc_num.specs.Vectors.{Within, zero_vector}
use Rattle.lc_scan.specs.Whole.{whole_of}
use Rattle.lc_scan.specs.declared.fault.NumFault.{NumFault}
use Rattle.lc_obj.specs.declared.fault_kind.FaultKind.{FaultKind}
use Rattle.lc_obj.specs.declared.fault_kind.FaultKind.TheVariants as kind
use Rattle.lc_obj.specs.declared.mesh.Uv.{Uv}
use Rattle.lc_obj.specs.declared.index.Index.{Index}
use Rattle.lc_obj.specs.declared.index.Indices.{Indices}
use Rattle.lc_obj.specs.declared.corner.Corner.{Corner}
use Rattle.lc_obj.specs.declared.tables.Tables.{Tables}

-- ---- indices

abbrev pub is_back : List ℕ → Bool
is_back part = slice_index part 0 == 45

-- what stands after a minus, if one stands in front
abbrev pub digits : List ℕ → List ℕ
digits part = if is_back part then drop 1 part else part

abbrev pub index_by : Bool → Result ℕ NumFault → Option Index
index_by back (Ok k) = Some (record { back = back; size = k })
index_by back (Err e) = None

-- the index that a part spells, if it spells one
unfoldable pub index_of : List ℕ → Option Index
index_of part = index_by (is_back part) (whole_of (digits part))

-- an index k, or -k, names one of the items given so far where k is from 1 to their number
abbrev pub index_test : ℕ → Index → Option FaultKind
index_test given i = if i.size == 0 then Some kind.IndexZero else if nat_lt given i.size then Some kind.Index else None

-- its place among them, from the front or from the back
abbrev pub place_of : ℕ → Index → ℕ
place_of given i = if i.back then given - i.size else i.size - 1

-- ---- corners

abbrev pub is_slash : ℕ → Bool
is_slash b = b == 47

-- a part that has to spell an index
abbrev pub present : List ℕ → Option (Option Index)
present part = option_map (λ i. Some i) (index_of part)

-- a part that spells an index or is empty
abbrev pub present_or_empty : List ℕ → Option (Option Index)
present_or_empty part = if length part == 0 then Some None else present part

abbrev pub together : Option Index → Option (Option Index) → Option (Option Index) → Option Indices
together (Some place) (Some uv) (Some normal) = Some (record { place = place; uv = uv; normal = normal })
together (Some place) (Some uv) None = None
together (Some place) None normal = None
together None uv normal = None

-- `v`, `v/vt`, and `v//vn` or `v/vt/vn`
abbrev pub indices_in : List (List ℕ) → Option Indices
indices_in [] = None
indices_in (v ∷ []) = together (index_of v) (Some None) (Some None)
indices_in (v ∷ vt ∷ []) = together (index_of v) (present vt) (Some None)
indices_in (v ∷ vt ∷ vn ∷ []) = together (index_of v) (present_or_empty vt) (present vn)
indices_in (v ∷ vt ∷ vn ∷ more ∷ later) = None

-- the indices of a corner, where it has one of the four forms
unfoldable pub indices_of : List ℕ → Option Indices
indices_of corner = indices_in (slice_split is_slash corner)

-- an index that may be left out
abbrev pub optional_test : ℕ → Option Index → Option FaultKind
optional_test given None = None
optional_test given (Some i) = index_test given i

-- the form first, and then each index that is there
abbrev pub tests_by : Tables → Option Indices → List (Option FaultKind)
tests_by given None = Some kind.Number ∷ []
tests_by given (Some i) =
    index_test (length given.places) i.place ∷ optional_test (length given.uvs) i.uv
    ∷ optional_test (length given.normals) i.normal ∷ []

unfoldable pub corner_tests : Tables → List ℕ → List (Option FaultKind)
corner_tests given corner = tests_by given (indices_of corner)

abbrev pub no_uv : Uv
no_uv = record { u = pos 0; v = pos 0 }

abbrev pub corner_by : Tables → Option Indices → Corner
corner_by given None = record { place = zero_vector; uv = None; normal = None }
corner_by given (Some i) = record {
  place = slice_index_or given.places (place_of (length given.places) i.place) zero_vector;
  uv = option_map (λ k. slice_index_or given.uvs (place_of (length given.uvs) k) no_uv) i.uv;
  normal = option_map (λ k. slice_index_or given.normals (place_of (length given.normals) k) zero_vector) i.normal;
}

-- what a corner without a fault names
unfoldable pub corner_of : Tables → List ℕ → Corner
corner_of given corner = corner_by given (indices_of corner)

-- places within 5000.0000 and normals of at most 16384, and at most 1,000,000 of each kind
pub record AreTables (t : Tables) : Type 0 where
  pub places : All (Within 50_000_000) t.places
  pub normals : All (Within 16384) t.normals
  pub few_places : length t.places ≤ 1_000_000
  pub few_uvs : length t.uvs ≤ 1_000_000
  pub few_normals : length t.normals ≤ 1_000_000
