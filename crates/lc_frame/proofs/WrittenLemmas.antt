-- The two files after the calls of a render, and after a part of them.
use Rattle.std.proofs.Common.{◌≡◌, ℕ, zero, suc, List, [], ◌∷◌, ◌++◌, take, flat_map, refl, sym, ◌∙◌, ap, subst, arith, append-nil, inl, inr, Contains, slice_index_or}
use Rattle.std.proofs.lemmas.List.Elements.{All-nil, All-cons}
use Rattle.lc_desk.specs.Calls.{AreOn, BrokeOff, Call, after_calls, begin, put, slot_of}
use Rattle.lc_desk.specs.Desk.{DeskState, SlotState, Slots, appended, opened}
use Rattle.lc_desk.specs.Slots.{slot_at}
use Rattle.lc_desk.specs.declared.desk.PutStop.{PutStop}
use Rattle.lc_desk.specs.declared.desk.Slot.{Slot}
use Rattle.lc_desk.specs.declared.desk.Slot.TheVariants.{Picture, Bounds, Report, Note}
use Rattle.lc_desk.proofs.CallLemmas.{AreOn-append, appended-appended, other_after_calls}
use Rattle.lc_rated.specs.declared.answer.Answer.{Answer}
use Rattle.lc_job.specs.declared.job.Job.{Job}
use Rattle.lc_tone.specs.Picture.{picture}
use Rattle.lc_tone.specs.Tone as tone
use Rattle.lc_record.specs.Record.{line_bytes, text}
use Rattle.lc_record.specs.Record as record_of
use Rattle.lc_frame.specs.Files.{LeftPart, files}
use Rattle.lc_frame.specs.Frames.{header_of, lines_of, opening, picture_text, pixels, record_text, render_calls, row_bytes, row_calls}
use Rattle.lc_frame.proofs.FileLemmas.{IsPart, PartOf, bounds_after, bounds_in, bounds_parts, part_all, part_in, part_of, part_taken, picture_after, picture_in, picture_parts, pixels_bytes, rows_bounds, rows_picture, rows_put, took}

-- the call is on one of the two files
abbrev IsFile : Call → Type 0
IsFile call = Contains files (slot_of call)

on_picture : Contains files Picture
on_picture = (0, omega arith, refl)

on_bounds : Contains files Bounds
on_bounds = (1, omega arith, refl)

-- ---- a file that is begun, and then has a part of its bytes: those of its header, and then the others

module _ (name bytes head others : List ℕ) (s : SlotState) (is : bytes ≡ head ++ others) where
  -- a part of the header
  pub head_part : (part : List ℕ) (now : SlotState) → IsPart part head → now ≡ appended part (opened name s) → LeftPart name bytes s now
  head_part part now p held = inr (took bytes part (opened name s) now (subst (IsPart part) (sym is) (wider part p)) held) where
    wider : (l : List ℕ) → IsPart l head → IsPart l (head ++ others)
    wider l q = subst (λ x. IsPart x (head ++ others)) (sym q.1) (part_taken q.0 head others)

  -- the header, and a part of the others
  pub later_part : (part : List ℕ) (now : SlotState) → IsPart part others → now ≡ appended part (appended head (opened name s)) → LeftPart name bytes s now
  later_part part now p held =
      inr (took bytes (head ++ part) (opened name s) now (subst (IsPart (head ++ part)) (sym is) (part_in head part others p)) (held ∙ appended-appended head part (opened name s)))

-- ---- the files of a render

module _ (job : Job) (rows : List (List (List Answer))) where
  abbrev head : List ℕ
  head = tone.header_bytes job.camera.width job.camera.height

  abbrev log : List ℕ
  log = record_of.record_header (header_of job)

  abbrev tail : List Call
  tail = flat_map (row_calls job.white) rows

  abbrev started : Slots → Slots
  started s = after_calls (opening job) s

  picture_is : picture_text job rows ≡ head ++ flat_map picture_in tail
  unfolding picture
  picture_is = ap (λ l. head ++ l) (sym (rows_picture job.white rows ∙ pixels_bytes job.white (pixels rows)))

  record_is : record_text job rows ≡ log ++ flat_map bounds_in tail
  unfolding text
  record_is = ap (λ l. log ++ l) (sym (rows_bounds job.white rows))

  pub picture_left : (s : Slots) → (after_calls (render_calls job rows) s).picture ≡ appended (picture_text job rows) (opened job.picture s.picture)
  unfolding render_calls
  picture_left s =
      picture_after tail (started s) (rows_put job.white rows) ∙ appended-appended head (flat_map picture_in tail) (opened job.picture s.picture)
      ∙ ap (λ l. appended l (opened job.picture s.picture)) (sym picture_is)

  pub record_left : (s : Slots) → (after_calls (render_calls job rows) s).bounds ≡ appended (record_text job rows) (opened job.bounds s.bounds)
  unfolding render_calls
  record_left s =
      bounds_after tail (started s) (rows_put job.white rows) ∙ appended-appended log (flat_map bounds_in tail) (opened job.bounds s.bounds)
      ∙ ap (λ l. appended l (opened job.bounds s.bounds)) (sym record_is)

  -- ---- a part of the calls

  whole_head : IsPart head head
  whole_head = subst (IsPart head) (append-nil head) (part_all head [])

  module _ (s : Slots) where
    picture_of_head : (part : List ℕ) (now : SlotState) → IsPart part head → now ≡ appended part (opened job.picture s.picture) → LeftPart job.picture (picture_text job rows) s.picture now
    picture_of_head part now p held = head_part job.picture (picture_text job rows) head (flat_map picture_in tail) s.picture picture_is part now p held

    bounds_of_log : (part : List ℕ) (now : SlotState) → IsPart part log → now ≡ appended part (opened job.bounds s.bounds) → LeftPart job.bounds (record_text job rows) s.bounds now
    bounds_of_log part now p held = head_part job.bounds (record_text job rows) log (flat_map bounds_in tail) s.bounds record_is part now p held

    -- in the rows
    later_picture : (now : Slots) → PartOf tail (started s) now → LeftPart job.picture (picture_text job rows) s.picture now.picture
    later_picture now q =
        let p = picture_parts tail (started s) now (rows_put job.white rows) q in
        later_part job.picture (picture_text job rows) head (flat_map picture_in tail) s.picture picture_is p.0 now.picture p.1 p.2

    later_bounds : (now : Slots) → PartOf tail (started s) now → LeftPart job.bounds (record_text job rows) s.bounds now.bounds
    later_bounds now q =
        let p = bounds_parts tail (started s) now (rows_put job.white rows) q in
        later_part job.bounds (record_text job rows) log (flat_map bounds_in tail) s.bounds record_is p.0 now.bounds p.1 p.2

    picture_in_part : (now : Slots) → PartOf (render_calls job rows) s now → LeftPart job.picture (picture_text job rows) s.picture now.picture
    unfolding render_calls
    picture_in_part now (inl p) = inl (ap (λ x. x.picture) p.1)
    picture_in_part now (inr (inl p)) = picture_of_head (take p.0 head) now.picture (p.0, refl) (ap (λ x. x.picture) p.1)
    picture_in_part now (inr (inr (inl p))) = picture_of_head head now.picture whole_head (ap (λ x. x.picture) p.1)
    picture_in_part now (inr (inr (inr (inl p)))) = picture_of_head head now.picture whole_head (ap (λ x. x.picture) p.1)
    picture_in_part now (inr (inr (inr (inr q)))) = later_picture now q

    bounds_in_part : (now : Slots) → PartOf (render_calls job rows) s now → LeftPart job.bounds (record_text job rows) s.bounds now.bounds
    unfolding render_calls
    bounds_in_part now (inl p) = inl (ap (λ x. x.bounds) p.1)
    bounds_in_part now (inr (inl p)) = inl (ap (λ x. x.bounds) p.1)
    bounds_in_part now (inr (inr (inl p))) = inl (ap (λ x. x.bounds) p.1)
    bounds_in_part now (inr (inr (inr (inl p)))) = bounds_of_log (take p.0 log) now.bounds (p.0, refl) (ap (λ x. x.bounds) p.1)
    bounds_in_part now (inr (inr (inr (inr q)))) = later_bounds now q

  module _ (why : PutStop) (before now : DeskState) (broke : BrokeOff why (render_calls job rows) before now) where
    broken_part : PartOf (render_calls job rows) before.slots now.slots
    broken_part = subst (PartOf (render_calls job rows) before.slots) (sym broke.slots) (part_of (render_calls job rows) broke.done broke.refused broke.rest broke.taken before.slots broke.split)

    pub picture_part : LeftPart job.picture (picture_text job rows) before.slots.picture now.slots.picture
    picture_part = picture_in_part before.slots now.slots broken_part

    pub record_part : LeftPart job.bounds (record_text job rows) before.slots.bounds now.slots.bounds
    record_part = bounds_in_part before.slots now.slots broken_part

-- ---- the slots of the calls

lines_on : (pixel : List Answer) → AreOn files (lines_of pixel)
lines_on [] = All-nil IsFile
lines_on (a ∷ later) = All-cons IsFile (put Bounds (line_bytes a)) (lines_of later) on_bounds (lines_on later)

pixels_on : (row : List (List Answer)) → AreOn files (flat_map lines_of row)
pixels_on [] = All-nil IsFile
pixels_on (pixel ∷ later) = AreOn-append files (lines_of pixel) (flat_map lines_of later) (lines_on pixel) (pixels_on later)

row_on : (white : ℕ) (row : List (List Answer)) → AreOn files (row_calls white row)
unfolding row_calls
row_on white row =
    AreOn-append files (flat_map lines_of row) (put Picture (row_bytes white row) ∷ []) (pixels_on row)
    (All-cons IsFile (put Picture (row_bytes white row)) [] on_picture (All-nil IsFile))

rows_on : (white : ℕ) (rows : List (List (List Answer))) → AreOn files (flat_map (row_calls white) rows)
rows_on white [] = All-nil IsFile
rows_on white (row ∷ later) = AreOn-append files (row_calls white row) (flat_map (row_calls white) later) (row_on white row) (rows_on white later)

-- each file is begun and has its header
four_on : (name head log_name log : List ℕ) → AreOn files (begin Picture name ∷ put Picture head ∷ begin Bounds log_name ∷ put Bounds log ∷ [])
four_on name head log_name log =
    let last : AreOn files (put Bounds log ∷ []) = All-cons IsFile (put Bounds log) [] on_bounds (All-nil IsFile) in
    let two : AreOn files (begin Bounds log_name ∷ put Bounds log ∷ []) = All-cons IsFile (begin Bounds log_name) (put Bounds log ∷ []) on_bounds last in
    let three : AreOn files (put Picture head ∷ begin Bounds log_name ∷ put Bounds log ∷ []) = All-cons IsFile (put Picture head) (begin Bounds log_name ∷ put Bounds log ∷ []) on_picture two in
    All-cons IsFile (begin Picture name) (put Picture head ∷ begin Bounds log_name ∷ put Bounds log ∷ []) on_picture three

-- the calls of a render are on its two files
pub calls_on : (job : Job) (rows : List (List (List Answer))) → AreOn files (render_calls job rows)
unfolding render_calls
calls_on job rows = AreOn-append files (opening job) (flat_map (row_calls job.white) rows) (four_on job.picture (tone.header_bytes job.camera.width job.camera.height) job.bounds (record_of.record_header (header_of job))) (rows_on job.white rows)

-- ---- the other slots

not_file : (slot : Slot) (picture : Picture ≡ slot → ⊥) (bounds : Bounds ≡ slot → ⊥) (call : Call) → IsFile call → slot_of call ≡ slot → ⊥
not_file slot picture bounds call (zero, lt, at) e = picture (at ∙ e)
not_file slot picture bounds call (suc zero, lt, at) e = bounds (at ∙ e)
not_file slot picture bounds call (suc (suc k), lt, at) e = absurd (omega arith)

other_left : (slot : Slot) (picture : Picture ≡ slot → ⊥) (bounds : Bounds ≡ slot → ⊥) (job : Job) (rows : List (List (List Answer))) (s : Slots) → slot_at (after_calls (render_calls job rows) s) slot ≡ slot_at s slot
other_left slot picture bounds job rows s = other_after_calls (render_calls job rows) slot s (λ k d lt. not_file slot picture bounds (slice_index_or (render_calls job rows) k d) (calls_on job rows k d lt))

pub report_left : (job : Job) (rows : List (List (List Answer))) (s : Slots) → (after_calls (render_calls job rows) s).report ≡ s.report
report_left job rows s = other_left Report (λ (e : Picture ≡ Report). cc) (λ (e : Bounds ≡ Report). cc) job rows s

pub note_left : (job : Job) (rows : List (List (List Answer))) (s : Slots) → (after_calls (render_calls job rows) s).note ≡ s.note
note_left job rows s = other_left Note (λ (e : Picture ≡ Note). cc) (λ (e : Bounds ≡ Note). cc) job rows s
