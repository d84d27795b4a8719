-- What a command answers, by its words and the files.
use Rattle.std.specs.Prelude.{ℕ, ◌==◌, codes, decimal, Bool, List, [], ◌∷◌, ◌++◌, length, map, slice_index, Option}
use Rattle.std.specs.Prelude.{Some, None, Result, Ok, Err, if◌then◌else◌, nat_lt}
use Rattle.std.specs.List.{list_any}
use Rattle.std.specs.Str.{bytes_eq}
use Rattle.lc_num.specs.Vectors.{zero_vector}
use Rattle.lc_num.specs.Cosines.{scaled}
use Rattle.lc_num.specs.Faults.{Fault}
use Rattle.lc_num.specs.declared.rules.Rule.{Rule}
use Rattle.lc_num.specs.declared.rules.Rule.TheVariants as rule
use Rattle.lc_num.specs.declared.vectors.Vec3.{Vec3}
use Rattle.lc_desk.specs.Calls.{put}
use Rattle.lc_desk.specs.Desk.{Files}
use Rattle.lc_desk.specs.declared.desk.Slot.{Slot}
use Rattle.lc_desk.specs.declared.desk.Slot.TheVariants.{Picture, Bounds, Report}
use Rattle.lc_geom.specs.declared.triangle.Tri.{Tri}
use Rattle.lc_obj.specs.ObjFile as obj
use Rattle.lc_obj.specs.declared.mesh.Mesh.{Mesh}
use Rattle.lc_mtl.specs.MtlFile as mtl
use Rattle.lc_mtl.specs.declared.material.Material.{Material}
use Rattle.lc_light.specs.LightFile as light
use Rattle.lc_light.specs.declared.lights.Lights.{Lights}
use Rattle.lc_terms.specs.declared.spot.Spot.{Spot}
use Rattle.lc_rated.specs.declared.answer.Answer.{Answer}
use Rattle.lc_rated.specs.Cuts.{answer}
use Rattle.lc_cut.specs.Forest.{forest_of, trees_of}
use Rattle.lc_job.specs.JobFile.{first_stop, job_in}
use Rattle.lc_job.specs.declared.job.Job.{Job}
use Rattle.lc_job.specs.declared.stop.JobStop.{JobStop}
use Rattle.lc_job.specs.declared.stop.JobStop.TheVariants as job_stop
use Rattle.lc_sample.specs.Scenes.{scene_of}
use Rattle.lc_record.specs.Record.{record_header, line_bytes}
use Rattle.lc_record.specs.Readings.{record_in}
use Rattle.lc_record.specs.declared.reader.Record.{Record}
use Rattle.lc_audit.specs.Verdicts.{verdict}
use Rattle.lc_audit.specs.declared.verdict.Verdict.{Verdict}
use Rattle.lc_audit.specs.declared.verdict.Verdict.TheVariants.{Yes, No}
use Rattle.lc_make.specs.Made.{made_of}
use Rattle.lc_make.specs.declared.made.Made.{Made}
use Rattle.lc_frame.specs.Files.{files as frame_files, picture_file}
use Rattle.lc_frame.specs.Frames.{answers_of, evals_of, header_of, render_calls, samples}
use Rattle.lc_frame.specs.PlainFrames.{plain_calls, plain_lights}
use Rattle.lc_tool.specs.declared.status.Source.{Source}
use Rattle.lc_tool.specs.declared.status.Source.TheVariants as source
use Rattle.lc_tool.specs.declared.world.World.{World}
use Rattle.lc_tool.specs.Status.{source_code}
use Rattle.lc_tool.specs.Summaries.{summary_line}
use Rattle.lc_tool.specs.Course.{Course, Refusal, refuses, and_then, at_once, told}
use Rattle.lc_tool.specs.Lines.{usage_line, absent_line, long_line, fault_line, missing_line, miss_line, file_limit}
use Rattle.lc_tool.specs.Lines.{record_limit}
use Rattle.lc_tool.specs.Work.{Work}
use Rattle.lc_tool.specs.Words.{Command, probe, render, plain, audit, make, command_of}

-- ---- reads

-- a file within the limit
abbrev pub within : ℕ → List ℕ → Option (List ℕ) → Result (List ℕ) Refusal
within limit name None = refuses 7 (absent_line name)
within limit name (Some bytes) = if nat_lt limit (length bytes) then refuses 10 (long_line limit name) else Ok bytes

-- the bytes of a file
abbrev pub text_of : ℕ → List ℕ → Files → Course (List ℕ)
text_of limit name files = record { reads = name ∷ []; end = within limit name (files name) }

-- a text's value, or the refusal by its first fault
abbrev pub unless_faulty : {A : Type 0} → Source → List ℕ → Option Fault → A → Result A Refusal
unless_faulty text name None value = Ok value
unless_faulty text name (Some fault) value = refuses (source_code text) (fault_line name fault.line fault.kind)

-- a job, or the refusal by the first thing that is wrong with its text; want of memory is nothing that is wrong
abbrev pub unless_stopped : List ℕ → Option JobStop → Job → Result Job Refusal
unless_stopped name None job = Ok job
unless_stopped name (Some job_stop.Memory) job = Ok job
unless_stopped name (Some (job_stop.Fault line kind)) job = refuses (source_code source.Job) (fault_line name line kind)
unless_stopped name (Some (job_stop.Missing key)) job = refuses (source_code source.Job) (missing_line name key)

-- ---- texts under a name

-- the job of a text
abbrev pub job_text : List ℕ → List ℕ → Course Job
job_text name text = at_once (unless_stopped name (first_stop text) (job_in text))

-- its mesh
abbrev pub mesh_text : List ℕ → List ℕ → Course Mesh
mesh_text name text = at_once (unless_faulty source.Scene name (obj.fault_in text) (obj.mesh text))

-- the materials of a library's text, after those before
abbrev pub library_text : List Material → List ℕ → List ℕ → Course (List Material)
library_text before name text =
    at_once (unless_faulty source.Library name (mtl.fault_in (length before) text) (mtl.materials before text))

-- the lights of a text
abbrev pub lights_text : List ℕ → ℕ → List ℕ → Course Lights
lights_text name seed text = at_once (unless_faulty source.Lights name (light.fault_in text) (light.lights text seed))

-- ---- files

-- the job of a file
abbrev pub job_of : List ℕ → Files → Course Job
job_of name files = and_then (text_of file_limit name files) (λ text. job_text name text)

-- the mesh of a file
abbrev pub mesh_of : List ℕ → Files → Course Mesh
mesh_of name files = and_then (text_of file_limit name files) (λ text. mesh_text name text)

-- the materials of a library, after those before
abbrev pub library_of : List Material → List ℕ → Files → Course (List Material)
library_of before name files = and_then (text_of file_limit name files) (λ text. library_text before name text)

-- the materials of libraries, one after another, after those before
unfoldable pub libraries_of : List (List ℕ) → List Material → Files → Course (List Material)
libraries_of [] before files = at_once (Ok before)
libraries_of (name ∷ later) before files =
    and_then (library_of before name files) (λ items. libraries_of later items files)

-- the lights of a file
abbrev pub lights_of : List ℕ → ℕ → Files → Course Lights
lights_of name seed files = and_then (text_of file_limit name files) (λ text. lights_text name seed text)

-- ---- names

abbrev pub is_slash : ℕ → Bool
is_slash b = b == 47

-- the name up to and including its last '/'
unfoldable pub folder_of : List ℕ → List ℕ
folder_of [] = []
folder_of (b ∷ later) = if list_any is_slash (b ∷ later) then b ∷ folder_of later else []

-- the file name of a library that a scene names: it is looked for beside the scene, but one that begins with '/' stands
-- alone
unfoldable pub beside : List ℕ → List ℕ → List ℕ
beside scene library = if slice_index library 0 == 47 then library else folder_of scene ++ library

-- ---- probe

-- a matte white spot at the place, with a normal in the direction
abbrev pub probe_spot : Vec3 → Vec3 → Spot
probe_spot place direction = record {
  x = place;
  n = scaled direction 16384;
  r = zero_vector;
  kd = record { r = 10000; g = 10000; b = 10000 };
  ks = record { r = 0; g = 0; b = 0 };
  ns = 0;
}

-- the greatest size of a probe's cut, and how many thousandths of the estimate the bound may be
abbrev pub probe_size : ℕ
probe_size = 1000

abbrev pub probe_permille : ℕ
probe_permille = 20

-- the rule of a probe's bounds
abbrev pub probe_rule : Rule
probe_rule = rule.One

-- the triangles of a probe's scene: none
abbrev pub probe_scene : List Tri
probe_scene = []

-- the answer of the chosen cut through the trees of a file's lights, under the seed 0
unfoldable pub probe_answer : Vec3 → Vec3 → Lights → Answer
probe_answer place direction lights =
    answer probe_size probe_permille (trees_of probe_scene (probe_spot place direction) probe_rule (forest_of 0 lights))

-- the line of the answer on Report
abbrev pub probe_work : Answer → Work
probe_work answer = record { calls = put Report (line_bytes answer) ∷ []; evals = answer.evals }

abbrev pub probe_course : List ℕ → Vec3 → Vec3 → Files → Course Work
probe_course name place direction files =
    and_then (lights_of name 0 files) (λ lights. at_once (Ok (probe_work (probe_answer place direction lights))))

-- ---- render

-- the world of a job, a mesh, materials, and lights
abbrev pub world_by : Job → Mesh → List Material → Lights → World
world_by job mesh items lights = record { job = job; scene = scene_of mesh items lights job.seed }

-- with the lights of the job
abbrev pub lit : Job → Mesh → List Material → Files → Course World
lit job mesh items files =
    and_then (lights_of job.lights job.seed files) (λ lights. at_once (Ok (world_by job mesh items lights)))

-- with the libraries that the mesh names
abbrev pub furnished : Job → Mesh → Files → Course World
furnished job mesh files =
    and_then (libraries_of (map (beside job.scene) mesh.libs) [] files) (λ items. lit job mesh items files)

-- with the mesh of the job's scene
abbrev pub built : Job → Files → Course World
built job files = and_then (mesh_of job.scene files) (λ mesh. furnished job mesh files)

-- the world of a job's file
unfoldable pub world_of : List ℕ → Files → Course World
world_of name files = and_then (job_of name files) (λ job. built job files)

-- the picture and the record of a world
unfoldable pub render_work : World → Work
render_work world = record {
  calls = render_calls world.job (answers_of world.job world.scene);
  evals = evals_of (samples (answers_of world.job world.scene));
}

-- the course of a command on the world of a job's file
abbrev pub frame_course : (World → Work) → List ℕ → Files → Course Work
frame_course work name files = and_then (world_of name files) (λ world. at_once (Ok (work world)))

abbrev pub render_course : List ℕ → Files → Course Work
render_course name files = frame_course render_work name files

-- ---- plain

-- the picture of a world by the sums over all lights; no light is evaluated to choose a cut
unfoldable pub plain_work : World → Work
plain_work world = record { calls = plain_calls world.job (plain_lights world.job world.scene); evals = 0 }

abbrev pub plain_course : List ℕ → Files → Course Work
plain_course name files = frame_course plain_work name files

-- ---- audit

-- a record, or the refusal by its text's first fault
abbrev pub unless_wrong : List ℕ → Result Record Fault → Result Record Refusal
unless_wrong name (Ok kept) = Ok kept
unless_wrong name (Err fault) = refuses (source_code source.Record) (fault_line name fault.line fault.kind)

-- the record of a text
abbrev pub kept_text : List ℕ → List ℕ → Course Record
kept_text name text = at_once (unless_wrong name (record_in text))

-- the record of a file
abbrev pub kept_of : List ℕ → Files → Course Record
kept_of name files = and_then (text_of record_limit name files) (λ text. kept_text name text)

-- the kind of the fault of a record that begins with another header than the job's
abbrev pub other_header : ℕ
other_header = 4

-- a record that begins with the header of the job
abbrev pub same_header : List ℕ → Job → Record → Course Record
same_header name job kept = at_once (if bytes_eq (record_header kept.header) (record_header (header_of job))
    then Ok kept
    else refuses (source_code source.Record) (fault_line name 1 other_header))

-- the record of a job's picture
abbrev pub record_of : Job → Files → Course Record
record_of job files = and_then (kept_of job.bounds files) (λ kept. same_header job.bounds job kept)

-- the line of a verdict that is yes, with how many samples were looked at
abbrev pub yes_line : ℕ → List ℕ
yes_line checked = codes "audit yes " ++ decimal checked ++ codes "\n"

-- what a verdict has written; no light is evaluated to choose a cut
abbrev pub judged : Verdict → Result Work Refusal
judged (Yes checked) = Ok (record { calls = put Report (yes_line checked) ∷ []; evals = 0 })
judged (No miss) = refuses 11 (miss_line miss)

-- the verdict on a record of a world by the samples that a step divides
abbrev pub audited : ℕ → World → Record → Course Work
audited step world kept = at_once (judged (verdict world.scene world.job kept.lines step))

-- with the record of the world's job
abbrev pub audit_world : ℕ → World → Files → Course Work
audit_world step world files = and_then (record_of world.job files) (λ kept. audited step world kept)

abbrev pub audit_course : List ℕ → ℕ → Files → Course Work
audit_course name step files = and_then (world_of name files) (λ world. audit_world step world files)

-- ---- make

-- with the lights of made texts
abbrev pub made_lit : Made → Job → Mesh → List Material → Course World
made_lit made job mesh items =
    and_then (lights_text (codes "made.lights") job.seed made.lights)
    (λ lights. at_once (Ok (world_by job mesh items lights)))

-- with their materials
abbrev pub made_furnished : Made → Job → Mesh → Course World
made_furnished made job mesh =
    and_then (library_text [] (codes "made.mtl") made.mtl) (λ items. made_lit made job mesh items)

-- with their mesh
abbrev pub made_built : Made → Job → Course World
made_built made job = and_then (mesh_text (codes "made.obj") made.obj) (λ mesh. made_furnished made job mesh)

-- the world of made texts, which stand in the place of files; nothing is read
unfoldable pub made_world : Made → Course World
made_world made = and_then (job_text (codes "made.txt") made.job) (λ job. made_built made job)

-- the picture and the record of a world, and a line in short
unfoldable pub make_work : ℕ → World → Work
make_work number world = record {
  calls =
      render_calls world.job (answers_of world.job world.scene) ++ put Report
      (summary_line number (samples (answers_of world.job world.scene))) ∷ [];
  evals = evals_of (samples (answers_of world.job world.scene));
}

abbrev pub make_course : ℕ → Course Work
make_course number = and_then (made_world (made_of number)) (λ world. at_once (Ok (make_work number world)))

-- ---- all commands

-- the course of a command over the files that a desk holds, where it tells them; that of `make` needs none
abbrev pub course_of : Option Command → Option Files → Option (Course Work)
course_of None held = Some (at_once (refuses 2 usage_line))
course_of (Some (probe name place direction)) held = told (probe_course name place direction) held
course_of (Some (render name)) held = told (render_course name) held
course_of (Some (plain name)) held = told (plain_course name) held
course_of (Some (audit name step)) held = told (audit_course name step) held
course_of (Some (make number)) held = Some (make_course number)

-- the outcome of these words over the files that a desk holds
abbrev pub outcome : List (List ℕ) → Option Files → Option (Course Work)
outcome words held = course_of (command_of words) held

-- the status of an outcome
abbrev pub status_of : {A : Type 0} → Result A Refusal → ℕ
status_of (Ok a) = 0
status_of (Err r) = r.status

-- the slots that `make` writes
abbrev pub made_files : List Slot
made_files = Picture ∷ Bounds ∷ Report ∷ []

-- the slots that a command writes
abbrev pub slots_of : Option Command → List Slot
slots_of None = []
slots_of (Some (probe name place direction)) = Report ∷ []
slots_of (Some (render name)) = frame_files
slots_of (Some (plain name)) = picture_file
slots_of (Some (audit name step)) = Report ∷ []
slots_of (Some (make number)) = made_files
