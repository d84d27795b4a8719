-- What the calls of a render leave in the files.
use Rattle.std.proofs.Common.{◌≡◌, ◌⊎◌, ℕ, zero, suc, ◌+◌, List, [], ◌∷◌, ◌++◌, length, take, map, flat_map, refl, sym, ◌∙◌, ap, subst, append-nil, inl, inr}
use Rattle.std.proofs.Math.Seq.{take-append-add}
use Rattle.lc_desk.specs.Calls.{Call, after_call, after_calls, after_part, begin, put}
use Rattle.lc_desk.specs.Desk.{SlotState, Slots, TookPart, appended}
use Rattle.lc_desk.specs.declared.desk.Slot.{Slot}
use Rattle.lc_desk.specs.declared.desk.Slot.TheVariants.{Picture, Bounds, Report, Note}
use Rattle.lc_desk.proofs.CallLemmas.{appended-appended, appended-nil}
use Rattle.lc_rated.specs.declared.answer.Answer.{Answer}
use Rattle.lc_tone.specs.Picture.{pixel_bytes}
use Rattle.lc_record.specs.Record.{line_bytes}
use Rattle.lc_view.specs.Samples.{flat}
use Rattle.lc_frame.specs.Frames.{estimates, lines_of, pixels, row_bytes, row_calls, samples}
use Rattle.lc_frame.proofs.LoopLemmas.{flat_map-append}

-- ---- first parts

abbrev pub IsPart : List ℕ → List ℕ → Type 0
IsPart part whole = (k : ℕ) × (part ≡ take k whole)

pub part_in : (front part whole : List ℕ) → IsPart part whole → IsPart (front ++ part) (front ++ whole)
part_in front part whole p = (length front + p.0, ap (λ l. front ++ l) p.1 ∙ sym (take-append-add front whole p.0))

pub part_all : (front whole : List ℕ) → IsPart front (front ++ whole)
part_all front whole = subst (λ l. IsPart l (front ++ whole)) (append-nil front) (part_in front [] whole (0, refl))

pub part_taken : (k : ℕ) (piece whole : List ℕ) → IsPart (take k piece) (piece ++ whole)
part_taken zero piece whole = (0, refl)
part_taken (suc k) [] whole = (0, refl)
part_taken (suc k) (x ∷ xs) whole = let p = part_taken k xs whole in (suc p.0, ap (λ l. x ∷ l) p.1)

pub took : (bytes part : List ℕ) (before now : SlotState) → IsPart part bytes → now ≡ appended part before → TookPart bytes before now
took bytes part before now p is = record { count = p.0; held = is ∙ ap (λ l. appended l before) p.1 }

-- ---- puts alone

abbrev pub AllPuts : List Call → Type 0
AllPuts [] = Unit {0}
AllPuts (begin slot name ∷ later) = ⊥
AllPuts (put slot piece ∷ later) = AllPuts later

AllPuts-append : (a b : List Call) → AllPuts a → AllPuts b → AllPuts (a ++ b)
AllPuts-append [] b ha hb = hb
AllPuts-append (begin slot name ∷ later) b ha hb = absurd ha
AllPuts-append (put slot piece ∷ later) b ha hb = AllPuts-append later b ha hb

-- ---- the bytes that puts leave in the picture

abbrev pub picture_in : Call → List ℕ
picture_in (begin slot name) = []
picture_in (put Picture piece) = piece
picture_in (put Bounds piece) = []
picture_in (put Report piece) = []
picture_in (put Note piece) = []

abbrev pub bounds_in : Call → List ℕ
bounds_in (begin slot name) = []
bounds_in (put Picture piece) = []
bounds_in (put Bounds piece) = piece
bounds_in (put Report piece) = []
bounds_in (put Note piece) = []

picture_one : (slot : Slot) (piece : List ℕ) (s : Slots) → (after_call (put slot piece) s).picture ≡ appended (picture_in (put slot piece)) s.picture
picture_one Picture piece s = refl
picture_one Bounds piece s = sym (appended-nil s.picture)
picture_one Report piece s = sym (appended-nil s.picture)
picture_one Note piece s = sym (appended-nil s.picture)

bounds_one : (slot : Slot) (piece : List ℕ) (s : Slots) → (after_call (put slot piece) s).bounds ≡ appended (bounds_in (put slot piece)) s.bounds
bounds_one Picture piece s = sym (appended-nil s.bounds)
bounds_one Bounds piece s = refl
bounds_one Report piece s = sym (appended-nil s.bounds)
bounds_one Note piece s = sym (appended-nil s.bounds)

pub picture_after : (calls : List Call) (s : Slots) → AllPuts calls → (after_calls calls s).picture ≡ appended (flat_map picture_in calls) s.picture
picture_after [] s h = sym (appended-nil s.picture)
picture_after (begin slot name ∷ later) s h = absurd h
picture_after (put slot piece ∷ later) s h =
    picture_after later (after_call (put slot piece) s) h ∙ ap (appended (flat_map picture_in later)) (picture_one slot piece s)
    ∙ appended-appended (picture_in (put slot piece)) (flat_map picture_in later) s.picture

pub bounds_after : (calls : List Call) (s : Slots) → AllPuts calls → (after_calls calls s).bounds ≡ appended (flat_map bounds_in calls) s.bounds
bounds_after [] s h = sym (appended-nil s.bounds)
bounds_after (begin slot name ∷ later) s h = absurd h
bounds_after (put slot piece ∷ later) s h =
    bounds_after later (after_call (put slot piece) s) h ∙ ap (appended (flat_map bounds_in later)) (bounds_one slot piece s)
    ∙ appended-appended (bounds_in (put slot piece)) (flat_map bounds_in later) s.bounds

-- ---- a put that is refused

-- the part of the picture that a refused put leaves
picture_part_one : (taken : ℕ) (call : Call) (rest : List ℕ) (s : Slots) → (part : List ℕ) × IsPart part (picture_in call ++ rest) × ((after_part taken call s).picture ≡ appended part s.picture)
picture_part_one taken (begin slot name) rest s = ([], (0, refl), sym (appended-nil s.picture))
picture_part_one taken (put Picture piece) rest s = (take taken piece, part_taken taken piece rest, refl)
picture_part_one taken (put Bounds piece) rest s = ([], (0, refl), sym (appended-nil s.picture))
picture_part_one taken (put Report piece) rest s = ([], (0, refl), sym (appended-nil s.picture))
picture_part_one taken (put Note piece) rest s = ([], (0, refl), sym (appended-nil s.picture))

bounds_part_one : (taken : ℕ) (call : Call) (rest : List ℕ) (s : Slots) → (part : List ℕ) × IsPart part (bounds_in call ++ rest) × ((after_part taken call s).bounds ≡ appended part s.bounds)
bounds_part_one taken (begin slot name) rest s = ([], (0, refl), sym (appended-nil s.bounds))
bounds_part_one taken (put Picture piece) rest s = ([], (0, refl), sym (appended-nil s.bounds))
bounds_part_one taken (put Bounds piece) rest s = (take taken piece, part_taken taken piece rest, refl)
bounds_part_one taken (put Report piece) rest s = ([], (0, refl), sym (appended-nil s.bounds))
bounds_part_one taken (put Note piece) rest s = ([], (0, refl), sym (appended-nil s.bounds))

-- the slots where one of these calls was refused, after those before it
abbrev pub PartOf : List Call → Slots → Slots → Type 0
PartOf [] s now = ⊥
PartOf (call ∷ later) s now = ((taken : ℕ) × (now ≡ after_part taken call s)) ⊎ PartOf later (after_call call s) now

same_calls : (a b : Call) (x y : List Call) → a ∷ x ≡ b ∷ y → (a ≡ b) × (x ≡ y)
same_calls a b x y e = (cc, cc)

pub part_of : (calls done : List Call) (refused : Call) (rest : List Call) (taken : ℕ) (s : Slots) → calls ≡ done ++ refused ∷ rest → PartOf calls s (after_part taken refused (after_calls done s))
part_of [] [] refused rest taken s e = absurd cc
part_of [] (d ∷ done) refused rest taken s e = absurd cc
part_of (c ∷ later) [] refused rest taken s e = inl (taken, ap (λ x. after_part taken x s) (sym (same_calls c refused later rest e).0))
part_of (c ∷ later) (d ∷ done) refused rest taken s e =
    let same = same_calls c d later (done ++ refused ∷ rest) e in
    subst (λ x. PartOf (c ∷ later) s (after_part taken refused (after_calls done (after_call x s)))) same.0 (inr (part_of later done refused rest taken (after_call c s) same.1))

-- of puts alone, the first part of the bytes
pub picture_parts : (calls : List Call) (s now : Slots) → AllPuts calls → PartOf calls s now → (part : List ℕ) × IsPart part (flat_map picture_in calls) × (now.picture ≡ appended part s.picture)
picture_parts [] s now puts p = absurd p
picture_parts (begin slot name ∷ later) s now puts p = absurd puts
picture_parts (put slot piece ∷ later) s now puts (inl p) =
    let one = picture_part_one p.0 (put slot piece) (flat_map picture_in later) s in (one.0, one.1, ap (λ x. x.picture) p.1 ∙ one.2)
picture_parts (put slot piece ∷ later) s now puts (inr p) =
    let front = picture_in (put slot piece) in
    let t = picture_parts later (after_call (put slot piece) s) now puts p in
    (front ++ t.0, part_in front t.0 (flat_map picture_in later) t.1, t.2 ∙ ap (appended t.0) (picture_one slot piece s) ∙ appended-appended front t.0 s.picture)

pub bounds_parts : (calls : List Call) (s now : Slots) → AllPuts calls → PartOf calls s now → (part : List ℕ) × IsPart part (flat_map bounds_in calls) × (now.bounds ≡ appended part s.bounds)
bounds_parts [] s now puts p = absurd p
bounds_parts (begin slot name ∷ later) s now puts p = absurd puts
bounds_parts (put slot piece ∷ later) s now puts (inl p) =
    let one = bounds_part_one p.0 (put slot piece) (flat_map bounds_in later) s in (one.0, one.1, ap (λ x. x.bounds) p.1 ∙ one.2)
bounds_parts (put slot piece ∷ later) s now puts (inr p) =
    let front = bounds_in (put slot piece) in
    let t = bounds_parts later (after_call (put slot piece) s) now puts p in
    (front ++ t.0, part_in front t.0 (flat_map bounds_in later) t.1, t.2 ∙ ap (appended t.0) (bounds_one slot piece s) ∙ appended-appended front t.0 s.bounds)

-- ---- the rows of a render

lines_put : (pixel : List Answer) → AllPuts (lines_of pixel)
lines_put [] = tt
lines_put (a ∷ later) = lines_put later

pixels_put : (row : List (List Answer)) → AllPuts (flat_map lines_of row)
pixels_put [] = tt
pixels_put (pixel ∷ later) = AllPuts-append (lines_of pixel) (flat_map lines_of later) (lines_put pixel) (pixels_put later)

row_put : (white : ℕ) (row : List (List Answer)) → AllPuts (row_calls white row)
unfolding row_calls
row_put white row = AllPuts-append (flat_map lines_of row) (put Picture (row_bytes white row) ∷ []) (pixels_put row) tt

pub rows_put : (white : ℕ) (rows : List (List (List Answer))) → AllPuts (flat_map (row_calls white) rows)
rows_put white [] = tt
rows_put white (row ∷ later) = AllPuts-append (row_calls white row) (flat_map (row_calls white) later) (row_put white row) (rows_put white later)

-- what they leave in the picture
lines_picture : (pixel : List Answer) → flat_map picture_in (lines_of pixel) ≡ []
lines_picture [] = refl
lines_picture (a ∷ later) = lines_picture later

pixels_picture : (row : List (List Answer)) → flat_map picture_in (flat_map lines_of row) ≡ []
pixels_picture [] = refl
pixels_picture (pixel ∷ later) =
    flat_map-append picture_in (lines_of pixel) (flat_map lines_of later) ∙ ap (λ l. l ++ flat_map picture_in (flat_map lines_of later)) (lines_picture pixel) ∙ pixels_picture later

row_picture : (white : ℕ) (row : List (List Answer)) → flat_map picture_in (row_calls white row) ≡ row_bytes white row
unfolding row_calls
row_picture white row =
    flat_map-append picture_in (flat_map lines_of row) (put Picture (row_bytes white row) ∷ []) ∙ ap (λ l. l ++ (row_bytes white row ++ [])) (pixels_picture row)
    ∙ append-nil (row_bytes white row)

-- the bytes of pixels by their estimates
pub pixels_bytes : (white : ℕ) (row : List (List Answer)) → row_bytes white row ≡ flat_map (pixel_bytes white) (map estimates row)
pixels_bytes white [] = refl
pixels_bytes white (pixel ∷ later) = ap (λ l. pixel_bytes white (estimates pixel) ++ l) (pixels_bytes white later)

pub rows_picture : (white : ℕ) (rows : List (List (List Answer))) → flat_map picture_in (flat_map (row_calls white) rows) ≡ row_bytes white (pixels rows)
rows_picture white [] = refl
rows_picture white (row ∷ later) =
    flat_map-append picture_in (row_calls white row) (flat_map (row_calls white) later)
    ∙ ap (λ l. l ++ flat_map picture_in (flat_map (row_calls white) later)) (row_picture white row)
    ∙ ap (λ l. row_bytes white row ++ l) (rows_picture white later)
    ∙ sym (flat_map-append (λ pixel. pixel_bytes white (estimates pixel)) row (pixels later))

-- what they leave in the record
lines_bounds : (pixel : List Answer) → flat_map bounds_in (lines_of pixel) ≡ flat_map line_bytes pixel
lines_bounds [] = refl
lines_bounds (a ∷ later) = ap (λ l. line_bytes a ++ l) (lines_bounds later)

pixels_bounds : (row : List (List Answer)) → flat_map bounds_in (flat_map lines_of row) ≡ flat_map line_bytes (flat row)
pixels_bounds [] = refl
pixels_bounds (pixel ∷ later) =
    flat_map-append bounds_in (lines_of pixel) (flat_map lines_of later)
    ∙ ap (λ l. l ++ flat_map bounds_in (flat_map lines_of later)) (lines_bounds pixel)
    ∙ ap (λ l. flat_map line_bytes pixel ++ l) (pixels_bounds later)
    ∙ sym (flat_map-append line_bytes pixel (flat later))

row_bounds : (white : ℕ) (row : List (List Answer)) → flat_map bounds_in (row_calls white row) ≡ flat_map line_bytes (flat row)
unfolding row_calls
row_bounds white row =
    flat_map-append bounds_in (flat_map lines_of row) (put Picture (row_bytes white row) ∷ []) ∙ append-nil (flat_map bounds_in (flat_map lines_of row)) ∙ pixels_bounds row

pub rows_bounds : (white : ℕ) (rows : List (List (List Answer))) → flat_map bounds_in (flat_map (row_calls white) rows) ≡ flat_map line_bytes (samples rows)
rows_bounds white [] = refl
rows_bounds white (row ∷ later) =
    flat_map-append bounds_in (row_calls white row) (flat_map (row_calls white) later)
    ∙ ap (λ l. l ++ flat_map bounds_in (flat_map (row_calls white) later)) (row_bounds white row)
    ∙ ap (λ l. flat_map line_bytes (flat row) ++ l) (rows_bounds white later)
    ∙ sym (flat_map-append line_bytes (flat row) (samples later))
    ∙ ap (flat_map line_bytes) (sym (flat_map-append (λ pixel. pixel) row (pixels later)))
