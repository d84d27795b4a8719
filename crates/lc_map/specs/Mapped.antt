-- What a run leaves in the picture's file.
use Rattle.std.specs.Prelude.{◌≡◌, ℕ, List, Option, Some, IfSome}
use Rattle.lc_desk.specs.Desk.{DeskState, Files, appended, opened}
use Rattle.lc_frame.specs.Files.{LeftPart}
use Rattle.lc_record.specs.Reading.{IsTextOf}
use Rattle.lc_record.specs.declared.reader.Record.{Record}
use Rattle.lc_map.specs.Map.{map_bytes}
use Rattle.lc_map.specs.Words.{Order, order_of}

-- by the files that are told, a file is the text of this record
pub record Holds (files : Files) (name : List ℕ) (kept : Record) : Type 0 where
  pub text : List ℕ
  pub found : files name ≡ Some text
  pub whole : IsTextOf kept.header kept.lines text

-- the words are this order, and its record is this one
pub record IsMapOf (words : List (List ℕ)) (held : Option Files) (order : Order) (kept : Record) : Type 0 where
  pub order_is : order_of words ≡ Some order
  pub files : Files
  pub told : held ≡ Some files
  pub holds : Holds files order.source kept

-- over a desk that tells its files, the record's file is the text of a record
abbrev pub HasRecord : Order → Option Files → Type 0
HasRecord order held = IfSome held (λ files. (kept : Record) × Holds files order.source kept)

-- the picture's file is exactly the picture of the record, under its name
abbrev pub HasMap : Order → Record → DeskState → DeskState → Type 0
HasMap order kept before now =
    now.slots.picture ≡ appended (map_bytes order.kind kept) (opened order.picture before.slots.picture)

-- the picture's file is as it was, or was begun under its name and has a first part of the picture's bytes
abbrev pub LeavesMap : Order → Record → DeskState → DeskState → Type 0
LeavesMap order kept before now =
    LeftPart order.picture (map_bytes order.kind kept) before.slots.picture now.slots.picture

-- the other outputs are as they were
pub record KeepsOthers (before now : DeskState) : Type 0 where
  pub bounds : now.slots.bounds ≡ before.slots.bounds
  pub report : now.slots.report ≡ before.slots.report
