-- What a reader holds of the lines that it has read, and how one more line changes it.
use Rattle.std.specs.Prelude.{◌≡◌, ℕ, ◌+◌, ◌≤◌, List, ◌++◌, Option, Some, None}
use Rattle.std.specs.List.{last_or}
use Rattle.std.specs.Str.{bytes_eq}
use Rattle.lc_scan.specs.LineTests.{first_kind}
use Rattle.indexmap.specs.IndexSet.{insert_all}
use Rattle.lc_obj.specs.Corners.{AreTables}
use Rattle.lc_obj.specs.ObjLine.{line_tests, places_by, uvs_by, normals_by, faces_by, triangles_by, uses_by, libraries_by}
use Rattle.lc_obj.specs.ObjFile.{number_after}
use Rattle.lc_obj.specs.declared.keyword.Keyword.{Keyword}
use Rattle.lc_obj.specs.declared.fault_kind.FaultKind.{FaultKind}
use Rattle.lc_obj.specs.declared.reading.Reading.{Reading}
use Rattle.lc_obj.specs.declared.stop.LineStop.{LineStop}
use Rattle.lc_obj.specs.declared.stop.LineStop.TheVariants as stop

-- each line that is read keeps these
pub record IsReading (r : Reading) : Type 0 where
  pub tables : AreTables r.tables
  pub triangles : r.triangles ≤ 1_000_000
  pub names : r.mesh.names ≡ r.used
  pub libs : r.mesh.libs ≡ r.named

-- a line with this keyword and these values adds what it gives
pub record Adds (key : Keyword) (line : List ℕ) (vs : List (List ℕ)) (old new : Reading) : Type 0 where
  pub places : new.tables.places ≡ old.tables.places ++ places_by key vs
  pub uvs : new.tables.uvs ≡ old.tables.uvs ++ uvs_by key vs
  pub normals : new.tables.normals ≡ old.tables.normals ++ normals_by key vs
  pub triangles : new.triangles ≡ old.triangles + triangles_by key vs
  pub faces : new.mesh.faces ≡ old.mesh.faces ++ faces_by old.tables old.name key vs
  pub used : new.used ≡ insert_all bytes_eq old.used (uses_by key line)
  pub name : new.name ≡ number_after old.name new.used (last_or None (uses_by key line))
  pub named : new.named ≡ insert_all bytes_eq old.named (libraries_by key vs)

-- the kind of the first test that a line with this keyword and these values fails after what was read
abbrev pub kind_by : Keyword → List ℕ → List (List ℕ) → Reading → Option FaultKind
kind_by key line vs before = first_kind (line_tests key before.tables before.triangles line vs)

-- a line stops for want of memory, or for the first test that it fails
abbrev pub IsLineStop : LineStop → Option FaultKind → Type 0
IsLineStop stop.Memory found = Unit {0}
IsLineStop (stop.Fault kind) found = found ≡ Some kind
