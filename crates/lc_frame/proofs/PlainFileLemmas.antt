-- What the calls of a picture by the sums over all lights leave in the files.
use Rattle.std.proofs.Common.{◌≡◌, ℕ, zero, suc, List, [], ◌∷◌, ◌++◌, take, flat_map, refl, sym, ◌∙◌, ap, subst, arith, inl, inr, Contains, slice_index_or}
use Rattle.std.proofs.lemmas.List.Elements.{All-nil, All-cons}
use Rattle.lc_num.specs.declared.channels.Rgb.{Rgb}
use Rattle.lc_desk.specs.Calls.{AreOn, BrokeOff, Call, after_calls, begin, put, slot_of}
use Rattle.lc_desk.specs.Desk.{DeskState, Slots, appended, opened}
use Rattle.lc_desk.specs.Slots.{slot_at}
use Rattle.lc_desk.specs.declared.desk.PutStop.{PutStop}
use Rattle.lc_desk.specs.declared.desk.Slot.{Slot}
use Rattle.lc_desk.specs.declared.desk.Slot.TheVariants.{Picture}
use Rattle.lc_desk.proofs.CallLemmas.{appended-appended, other_after_calls}
use Rattle.lc_job.specs.declared.job.Job.{Job}
use Rattle.lc_tone.specs.Picture.{picture, pixel_bytes}
use Rattle.lc_tone.specs.Tone as tone
use Rattle.lc_frame.specs.Files.{LeftPart, picture_file}
use Rattle.lc_view.specs.Samples.{flat}
use Rattle.lc_frame.specs.PlainFrames.{plain_bytes, plain_calls, plain_picture, plain_put}
use Rattle.lc_frame.proofs.LoopLemmas.{flat_map-append}
use Rattle.lc_frame.proofs.FileLemmas.{AllPuts, PartOf, part_of, picture_after, picture_in, picture_parts}
use Rattle.lc_frame.proofs.WrittenLemmas.{head_part, later_part}

-- ---- the rows

rows_put : (white : ℕ) (rows : List (List (List Rgb))) → AllPuts (flat_map (plain_put white) rows)
rows_put white [] = tt
rows_put white (row ∷ later) = rows_put white later

-- what they leave in the picture
rows_picture : (white : ℕ) (rows : List (List (List Rgb))) → flat_map picture_in (flat_map (plain_put white) rows) ≡ flat_map (pixel_bytes white) (flat rows)
rows_picture white [] = refl
rows_picture white (row ∷ later) = ap (λ l. plain_bytes white row ++ l) (rows_picture white later) ∙ sym (flat_map-append (pixel_bytes white) row (flat later))

-- ---- the picture

module _ (job : Job) (rows : List (List (List Rgb))) where
  abbrev head : List ℕ
  head = tone.header_bytes job.camera.width job.camera.height

  abbrev tail : List Call
  tail = flat_map (plain_put job.white) rows

  abbrev started : Slots → Slots
  started s = after_calls (begin Picture job.picture ∷ put Picture head ∷ []) s

  picture_is : plain_picture job rows ≡ head ++ flat_map picture_in tail
  unfolding picture
  picture_is = ap (λ l. head ++ l) (sym (rows_picture job.white rows))

  pub picture_left : (s : Slots) → (after_calls (plain_calls job rows) s).picture ≡ appended (plain_picture job rows) (opened job.picture s.picture)
  unfolding plain_calls
  picture_left s =
      picture_after tail (started s) (rows_put job.white rows) ∙ appended-appended head (flat_map picture_in tail) (opened job.picture s.picture)
      ∙ ap (λ l. appended l (opened job.picture s.picture)) (sym picture_is)

  picture_in_part : (s now : Slots) → PartOf (plain_calls job rows) s now → LeftPart job.picture (plain_picture job rows) s.picture now.picture
  unfolding plain_calls
  picture_in_part s now (inl p) = inl (ap (λ x. x.picture) p.1)
  picture_in_part s now (inr (inl p)) = head_part job.picture (plain_picture job rows) head _ s.picture picture_is (take p.0 head) now.picture (p.0, refl) (ap (λ x. x.picture) p.1)
  picture_in_part s now (inr (inr q)) =
      let p = picture_parts tail (started s) now (rows_put job.white rows) q in
      later_part job.picture (plain_picture job rows) head _ s.picture picture_is p.0 now.picture p.1 p.2

  pub picture_part : (why : PutStop) (before now : DeskState) → BrokeOff why (plain_calls job rows) before now → LeftPart job.picture (plain_picture job rows) before.slots.picture now.slots.picture
  picture_part why before now broke =
      picture_in_part before.slots now.slots
      (subst (PartOf (plain_calls job rows) before.slots) (sym broke.slots) (part_of (plain_calls job rows) broke.done broke.refused broke.rest broke.taken before.slots broke.split))

-- ---- the slot of the calls

abbrev IsFile : Call → Type 0
IsFile call = Contains picture_file (slot_of call)

on_picture : Contains picture_file Picture
on_picture = (0, omega arith, refl)

rows_on : (white : ℕ) (rows : List (List (List Rgb))) → AreOn picture_file (flat_map (plain_put white) rows)
rows_on white [] = All-nil IsFile
rows_on white (row ∷ later) = All-cons IsFile (put Picture (plain_bytes white row)) (flat_map (plain_put white) later) on_picture (rows_on white later)

-- the calls are all on the picture
pub calls_on : (job : Job) (rows : List (List (List Rgb))) → AreOn picture_file (plain_calls job rows)
unfolding plain_calls
calls_on job rows =
    All-cons IsFile (begin Picture job.picture) (put Picture (head job rows) ∷ tail job rows) on_picture
    (All-cons IsFile (put Picture (head job rows)) (tail job rows) on_picture (rows_on job.white rows))

-- ---- the other slots

not_picture : (slot : Slot) (picture : Picture ≡ slot → ⊥) (call : Call) → IsFile call → slot_of call ≡ slot → ⊥
not_picture slot picture call (zero, lt, at) e = picture (at ∙ e)
not_picture slot picture call (suc k, lt, at) e = absurd (omega arith)

pub other_left : (slot : Slot) (picture : Picture ≡ slot → ⊥) (job : Job) (rows : List (List (List Rgb))) (s : Slots) → slot_at (after_calls (plain_calls job rows) s) slot ≡ slot_at s slot
other_left slot picture job rows s = other_after_calls (plain_calls job rows) slot s (λ k d lt. not_picture slot picture (slice_index_or (plain_calls job rows) k d) (calls_on job rows k d lt))
