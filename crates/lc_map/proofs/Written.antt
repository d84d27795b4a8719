-- The calls that write a map, and what they leave in the picture's file.
use Rattle.std.proofs.Common.{◌≡◌, ℕ, ◌+◌, ◌<◌, List, [], ◌∷◌, ◌++◌, take, flat_map, refl, sym, ◌∙◌, ap, subst, arith, inl, inr, Contains}
use Rattle.std.specs.List.{range_with_len}
use Rattle.std.proofs.lemmas.List.Elements.{All-nil, All-cons}
use Rattle.lc_desk.specs.Calls.{AreOn, BrokeOff, Call, Made, after_calls, begin, put, slot_of}
use Rattle.lc_desk.specs.Desk.{DeskState, Slots, appended, opened}
use Rattle.lc_desk.specs.declared.desk.PutStop.{PutStop}
use Rattle.lc_desk.specs.declared.desk.PutStop.TheVariants as put_stop
use Rattle.lc_desk.specs.declared.desk.Slot.TheVariants.{Picture}
use Rattle.lc_desk.proofs.CallLemmas.{appended-appended, made_then}
use Rattle.lc_frame.specs.Files.{LeftPart, picture_file}
use Rattle.lc_frame.specs.Stops.{Broke, StoppedIn}
use Rattle.lc_frame.specs.declared.stop.FrameStop.{FrameStop}
use Rattle.lc_frame.specs.declared.stop.FrameStop.TheVariants as frame
use Rattle.lc_frame.proofs.FileLemmas.{AllPuts, PartOf, part_of, picture_after, picture_in, picture_parts}
use Rattle.lc_frame.proofs.LoopLemmas.{firsts, frame_after, frame_before, loop_broke, loop_more}
use Rattle.lc_frame.proofs.StartLemmas.{start-is, starting, stopped_in}
use Rattle.lc_frame.proofs.WrittenLemmas.{head_part, later_part}
use Rattle.lc_record.specs.declared.reader.Record.{Record}
use Rattle.lc_tone.specs.Tone as tone
use Rattle.lc_map.specs.Map.{map_bytes, row_bytes}
use Rattle.lc_map.specs.Outcome.{map_calls, row_put}
use Rattle.lc_map.specs.declared.kind.Kind.{Kind}

module _ (kind : Kind) (kept : Record) where
  -- ---- the rows

  abbrev pub head : List ℕ
  head = tone.header_bytes kept.header.width kept.header.height

  abbrev pub tail : List Call
  tail = flat_map (row_put kind kept) (range_with_len 0 kept.header.height)

  rows_put : (rows : List ℕ) → AllPuts (flat_map (row_put kind kept) rows)
  rows_put [] = tt
  rows_put (row ∷ later) = rows_put later

  rows_picture : (rows : List ℕ) → flat_map picture_in (flat_map (row_put kind kept) rows) ≡ flat_map (row_bytes kind kept) rows
  rows_picture [] = refl
  rows_picture (row ∷ later) = ap (λ l. row_bytes kind kept row ++ l) (rows_picture later)

  -- one row more, and a refusal of it
  module _ (row : ℕ) (piece : List ℕ) (is : piece ≡ row_bytes kind kept row) (x y z : DeskState) (made : Made (firsts (row_put kind kept) row) x y) where
    pub row_more : Made (put Picture piece ∷ []) y z → Made (firsts (row_put kind kept) (row + 1)) x z
    row_more step = loop_more (row_put kind kept) row x y z made (subst (λ p. Made (put Picture p ∷ []) y z) is step)

    pub row_refused : (stop : FrameStop) → row < kept.header.height → Broke stop (put Picture piece ∷ []) y z → Broke stop tail x z
    row_refused stop lt broke = loop_broke (row_put kind kept) stop row kept.header.height x y z lt made (subst (λ p. Broke stop (put Picture p ∷ []) y z) is broke)

  map_is : map_bytes kind kept ≡ head ++ flat_map picture_in tail
  unfolding map_bytes
  map_is = ap (λ l. head ++ l) (sym (rows_picture (range_with_len 0 kept.header.height)))

  -- ---- the start of the picture, and then its rows

  module _ (name header : List ℕ) (headed : header ≡ head) where
    calls-is : starting (begin Picture name) (put Picture header) ++ tail ≡ map_calls name kind kept
    unfolding map_calls
    calls-is = ap (λ l. l ++ tail) (start-is Picture name name header head refl headed)

    pub map_made : (x y z : DeskState) → Made (begin Picture name ∷ put Picture header ∷ []) x y → Made tail y z → Made (map_calls name kind kept) x z
    map_made x y z a b =
        subst (λ calls. Made calls x z) calls-is (made_then (starting (begin Picture name) (put Picture header)) tail x y z a b)

    pub map_stopped_start : (stop : FrameStop) (x y : DeskState) → Broke stop (begin Picture name ∷ put Picture header ∷ []) x y → StoppedIn stop (map_calls name kind kept) x y
    map_stopped_start stop x y a =
        subst (λ calls. StoppedIn stop calls x y) calls-is
        (stopped_in stop _ x y (frame_before stop (starting (begin Picture name) (put Picture header)) tail x y a))

    pub map_stopped_rows : (stop : FrameStop) (x y z : DeskState) → Made (begin Picture name ∷ put Picture header ∷ []) x y → Broke stop tail y z → StoppedIn stop (map_calls name kind kept) x z
    map_stopped_rows stop x y z a b =
        subst (λ calls. StoppedIn stop calls x z) calls-is
        (stopped_in stop _ x z (frame_after stop (starting (begin Picture name) (put Picture header)) tail x y z a b))

  -- ---- the picture

  module _ (name : List ℕ) where
    abbrev started : Slots → Slots
    started s = after_calls (begin Picture name ∷ put Picture head ∷ []) s

    pub map_left : (s : Slots) → (after_calls (map_calls name kind kept) s).picture ≡ appended (map_bytes kind kept) (opened name s.picture)
    unfolding map_calls
    map_left s =
        picture_after tail (started s) (rows_put (range_with_len 0 kept.header.height))
        ∙ appended-appended head (flat_map picture_in tail) (opened name s.picture) ∙ ap (λ l. appended l (opened name s.picture)) (sym map_is)

    map_in_part : (s now : Slots) → PartOf (map_calls name kind kept) s now → LeftPart name (map_bytes kind kept) s.picture now.picture
    unfolding map_calls
    map_in_part s now (inl p) = inl (ap (λ x. x.picture) p.1)
    map_in_part s now (inr (inl p)) =
        head_part name (map_bytes kind kept) head _ s.picture map_is (take p.0 head) now.picture (p.0, refl) (ap (λ x. x.picture) p.1)
    map_in_part s now (inr (inr q)) =
        let p = picture_parts tail (started s) now (rows_put (range_with_len 0 kept.header.height)) q in
        later_part name (map_bytes kind kept) head _ s.picture map_is p.0 now.picture p.1 p.2

    map_part : (why : PutStop) (before now : DeskState) → BrokeOff why (map_calls name kind kept) before now → LeftPart name (map_bytes kind kept) before.slots.picture now.slots.picture
    map_part why before now broke =
        map_in_part before.slots now.slots
        (subst (PartOf (map_calls name kind kept) before.slots) (sym broke.slots)
        (part_of (map_calls name kind kept) broke.done broke.refused broke.rest broke.taken before.slots broke.split))

    pub map_stopped : (stop : FrameStop) (x y : DeskState) → StoppedIn stop (map_calls name kind kept) x y → LeftPart name (map_bytes kind kept) x.slots.picture y.slots.picture
    map_stopped (frame.Write slot) x y h = map_part put_stop.Failed x y h.0
    map_stopped frame.Memory x y (inl same) = inl (ap (λ d. d.slots.picture) same)
    map_stopped frame.Memory x y (inr broke) = map_part put_stop.Memory x y broke

  -- ---- the slot of the calls

  abbrev IsFile : Call → Type 0
  IsFile call = Contains picture_file (slot_of call)

  on_picture : Contains picture_file Picture
  on_picture = (0, omega arith, refl)

  rows_on : (rows : List ℕ) → AreOn picture_file (flat_map (row_put kind kept) rows)
  rows_on [] = All-nil IsFile
  rows_on (row ∷ later) = All-cons IsFile (put Picture (row_bytes kind kept row)) (flat_map (row_put kind kept) later) on_picture (rows_on later)

  -- the calls are all on the picture
  pub calls_on : (name : List ℕ) → AreOn picture_file (map_calls name kind kept)
  unfolding map_calls
  calls_on name =
      All-cons IsFile (begin Picture name) (put Picture head ∷ tail) on_picture
      (All-cons IsFile (put Picture head) tail on_picture (rows_on (range_with_len 0 kept.header.height)))
