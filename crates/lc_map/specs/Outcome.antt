-- What an order answers, by its words and the files.
use Rattle.std.specs.Prelude.{ℕ, List, [], ◌∷◌, flat_map, Option, Some, None, Ok, codes}
use Rattle.std.specs.List.{range_with_len}
use Rattle.lc_desk.specs.Calls.{Call, begin, put}
use Rattle.lc_desk.specs.Desk.{Files}
use Rattle.lc_desk.specs.declared.desk.Slot.TheVariants.{Picture}
use Rattle.lc_record.specs.declared.reader.Record.{Record}
use Rattle.lc_tone.specs.Tone as tone
use Rattle.lc_tool.specs.Course.{Course, and_then, at_once, refuses, told}
use Rattle.lc_tool.specs.Outcome.{kept_of}
use Rattle.lc_tool.specs.Work.{Work}
use Rattle.lc_map.specs.Map.{row_bytes}
use Rattle.lc_map.specs.Words.{Order, order_of}
use Rattle.lc_map.specs.declared.kind.Kind.{Kind}

abbrev pub usage_line : List ℕ
usage_line = codes "usage: boundmap RECORD PICTURE bound|size|missed\n"

-- the put of a row of pixels
abbrev pub row_put : Kind → Record → ℕ → List Call
row_put kind kept row = put Picture (row_bytes kind kept row) ∷ []

-- the puts of all rows, from the top
abbrev pub rows_put : Kind → Record → List Call
rows_put kind kept = flat_map (row_put kind kept) (range_with_len 0 kept.header.height)

-- the begin and the puts of the picture, in their order: its header, and then each row of pixels
unfoldable pub map_calls : List ℕ → Kind → Record → List Call
map_calls name kind kept =
    begin Picture name ∷ put Picture (tone.header_bytes kept.header.width kept.header.height) ∷ rows_put kind kept

-- the picture of a record; no light is evaluated
unfoldable pub map_work : Order → Record → Work
map_work order kept = record { calls = map_calls order.picture order.kind kept; evals = 0 }

-- the course of an order: the record is read, and then its picture is made
abbrev pub map_course : Order → Files → Course Work
map_course order files = and_then (kept_of order.source files) (λ kept. at_once (Ok (map_work order kept)))

-- the course of the words over the files that a desk holds, where it tells them
abbrev pub course_of : Option Order → Option Files → Option (Course Work)
course_of None held = Some (at_once (refuses 2 usage_line))
course_of (Some order) held = told (map_course order) held

-- the outcome of these words over the files that a desk holds
abbrev pub outcome : List (List ℕ) → Option Files → Option (Course Work)
outcome words held = course_of (order_of words) held
