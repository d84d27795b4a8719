-- The mesh of a text, and its first fault.
use Rattle.std.specs.Prelude.{◌≡◌, ℕ, ◌+◌, not, List, [], ◌∷◌, ◌++◌, filter, flat_map, sum_by, Option, Some, None, option_map}
use Rattle.std.specs.List.{last_or, position_or_len}
use Rattle.std.specs.Str.{bytes_eq}
use Rattle.lc_num.specs.Faults.{Fault}
use Rattle.lc_scan.specs.Fields.{values_in}
use Rattle.lc_scan.specs.Lines.{Line}
use Rattle.lc_scan.specs.Spoken.{spoken}
use Rattle.lc_scan.specs.Faults as faults
use Rattle.lc_obj.specs.FaultKinds.{kind_number}
use Rattle.lc_obj.specs.ObjLine.{key, places_by, uvs_by, normals_by, faces_by, triangles_by, uses_by, libraries_by, kind_of}
use Rattle.lc_obj.specs.declared.mesh.Face.{Face}
use Rattle.lc_obj.specs.declared.mesh.Mesh.{Mesh}
use Rattle.lc_obj.specs.declared.stop.ObjStop.{ObjStop}
use Rattle.lc_obj.specs.declared.stop.ObjStop.TheVariants as stop
use Rattle.lc_obj.specs.declared.tables.Tables.{Tables}

-- ---- what lines have given

unfoldable pub tables : List Line → Tables
tables ls = record {
  places = flat_map (λ l. places_by (key l.bytes) (values_in l.bytes)) ls;
  uvs = flat_map (λ l. uvs_by (key l.bytes) (values_in l.bytes)) ls;
  normals = flat_map (λ l. normals_by (key l.bytes) (values_in l.bytes)) ls;
}

-- the triangles of all faces, flat ones counted
unfoldable pub triangles : List Line → ℕ
triangles ls = sum_by (λ l. triangles_by (key l.bytes) (values_in l.bytes)) ls

-- each name once, in the order of first use
unfoldable pub first_uses : List (List ℕ) → List (List ℕ)
first_uses [] = []
first_uses (name ∷ later) = name ∷ filter (λ other. not (bytes_eq name other)) (first_uses later)

abbrev pub uses : List Line → List (List ℕ)
uses ls = flat_map (λ l. uses_by (key l.bytes) l.bytes) ls

unfoldable pub names : List Line → List (List ℕ)
names ls = first_uses (uses ls)

unfoldable pub libs : List Line → List (List ℕ)
libs ls = first_uses (flat_map (λ l. libraries_by (key l.bytes) (values_in l.bytes)) ls)

-- the number of the name that is used last: its place among the names, counted from 1. Where none is used it stays
abbrev pub number_after : ℕ → List (List ℕ) → Option (List ℕ) → ℕ
number_after before known None = before
number_after before known (Some name) = position_or_len (bytes_eq name) known + 1

-- the material in force is that of the last use, or 0
unfoldable pub in_force : List Line → ℕ
in_force ls = number_after 0 (names ls) (last_or None (uses ls))

-- the faces of lines after those before
unfoldable pub faces_from : List Line → List Line → List Face
faces_from before [] = []
faces_from before (l ∷ later) =
    faces_by (tables before) (in_force before) (key l.bytes) (values_in l.bytes) ++ faces_from (before ++ l ∷ []) later

-- ---- the text

-- the mesh of a text without a fault
unfoldable pub mesh : List ℕ → Mesh
mesh text = record { faces = faces_from [] (spoken text); names = names (spoken text); libs = libs (spoken text) }

-- a line is judged by itself and the list of lines before it
abbrev pub fault_of : List Line → Line → Option ℕ
fault_of before l = option_map kind_number (kind_of (tables before) (triangles before) l.bytes)

-- the fault of the first faulty line of a text
unfoldable pub fault_in : List ℕ → Option Fault
fault_in text = faults.fault_in fault_of text

-- a fault is the first one; want of memory is free
abbrev pub IsStop : ObjStop → Option Fault → Type 0
IsStop stop.Memory fault = Unit {0}
IsStop (stop.Fault line kind) fault = fault ≡ Some (record { line = line; kind = kind })
