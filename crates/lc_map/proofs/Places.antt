-- Where the samples of a pixel stand in a record.
use Rattle.std.proofs.Common.{◌≡◌, ℕ, zero, suc, ◌+◌, ◌-◌, ◌*◌, ◌<◌, ◌≤◌, List, ◌++◌, length, take, drop, refl, sym, ◌∙◌, ap, subst, arith, add-one}
use Rattle.std.proofs.Math.Nat.{mul-le-mul, mul-le-mul_right}
use Rattle.std.proofs.Math.Seq.{take-add, take-length}
use Rattle.std.proofs.lemmas.List.{drop-drop}
use Rattle.std.specs.List.{slice_range}
use Rattle.lc_frame.proofs.LoopLemmas.{firsts, firsts-more}
use Rattle.lc_record.specs.Reading.{IsTextOf}
use Rattle.lc_record.specs.declared.reader.Record.{Record}
use Rattle.lc_map.specs.Map.{lines_from, per_pixel, samples_at}

-- the pixels up to this one are among those of the picture
pub pixel-inside : (width height row col : ℕ) → row < height → col < width → row * width + col + 1 ≤ width * height
pixel-inside width height row col r c =
    let rows : suc row * width ≤ height * width = mul-le-mul_right width r in
    let one : suc row * width ≡ row * width + width = grind arith in
    let turned : height * width ≡ width * height = grind arith in
    omega (arith, rows, one, turned)

-- their samples are among those of the record
pub samples-inside : (width height each row col : ℕ) → row < height → col < width → (row * width + col + 1) * each ≤ width * height * each
samples-inside width height each row col r c = mul-le-mul_right each (pixel-inside width height row col r c)

-- and not too many to be counted
pub samples-few : (width height each pixel : ℕ) → width ≤ 4096 → height ≤ 4096 → each ≤ 256 → pixel ≤ width * height → pixel * each ≤ 4_294_967_296
samples-few width height each pixel w h e p =
    let pixels : width * height ≤ 4096 * 4096 = mul-le-mul w h in
    let all : pixel * each ≤ (width * height) * each = mul-le-mul_right each p in
    let most : (width * height) * each ≤ (4096 * 4096) * 256 = mul-le-mul pixels e in
    omega (arith, all, most)

-- ---- parts of a list, one after another

parts-join : {X : Type 0} (xs : List X) (a b c : ℕ) → a ≤ b → b ≤ c → slice_range xs a b ++ slice_range xs b c ≡ slice_range xs a c
parts-join xs a b c ab bc =
    let whole : (b - a) + (c - b) ≡ c - a = omega arith in
    let from : a + (b - a) ≡ b = omega arith in
    ap (λ l. take (b - a) (drop a xs) ++ take (c - b) l) (sym (drop-drop (b - a) a xs ∙ ap (λ n. drop n xs) from))
    ∙ sym (take-add (b - a) (c - b) (drop a xs)) ∙ ap (λ n. take n (drop a xs)) whole

-- so many parts that stand one after another are one part
parts-all : {X : Type 0} (xs : List X) (g : ℕ → List X) (bound : ℕ → ℕ) → ((k : ℕ) → bound k ≤ bound (k + 1)) → ((k : ℕ) → g k ≡ slice_range xs (bound k) (bound (k + 1)))
    → (m : ℕ) → (bound 0 ≤ bound m) × (firsts g m ≡ slice_range xs (bound 0) (bound m))
parts-all xs g bound rises part zero = (omega arith, let none : bound 0 - bound 0 ≡ 0 = omega arith in rw none refl)
parts-all xs g bound rises part (suc m) =
    let before = parts-all xs g bound rises part m in
    let up : bound m ≤ bound (m + 1) = rises m in
    let e : m + 1 ≡ suc m = add-one m in (
      subst (λ n. bound 0 ≤ bound n) e (omega (arith, before.0, up)),
      subst (λ n. firsts g n ≡ slice_range xs (bound 0) (bound n)) e
          (firsts-more g m ∙ ap (λ l. l ++ g m) before.1 ∙ ap (λ l. slice_range xs (bound 0) (bound m) ++ l) (part m)
          ∙ parts-join xs (bound 0) (bound m) (bound (m + 1)) before.0 up),
    )

module _ (kept : Record) where
  abbrev width : ℕ
  width = kept.header.width

  abbrev each : ℕ
  each = per_pixel kept.header

  -- the samples of the pixels of a row
  row-part : (row : ℕ) → firsts (samples_at kept row) width ≡ lines_from kept (row * width) ((row + 1) * width)
  row-part row =
      let all = parts-all kept.lines (samples_at kept row) (λ col. (row * width + col) * each)
      (λ col. mul-le-mul_right each (le_add row col)) (λ col. ap (λ n. slice_range kept.lines ((row * width + col) * each) (n * each)) (add_assoc row col)) width in
      all.1 ∙ ap (λ n. slice_range kept.lines (n * each) ((row * width + width) * each)) (add_none row)
      ∙ ap (λ n. slice_range kept.lines (row * width * each) (n * each)) (next_row row) where
        le_add : (row col : ℕ) → row * width + col ≤ row * width + (col + 1)
        le_add row col = omega arith

        add_assoc : (row col : ℕ) → row * width + col + 1 ≡ row * width + (col + 1)
        add_assoc row col = omega arith

        add_none : (row : ℕ) → row * width + 0 ≡ row * width
        add_none row = omega arith

        next_row : (row : ℕ) → row * width + width ≡ (row + 1) * width
        next_row row = grind arith

  -- the samples of all pixels
  pub all-parts : (text : List ℕ) → IsTextOf kept.header kept.lines text → firsts (λ row. firsts (samples_at kept row) width) kept.header.height ≡ kept.lines
  all-parts text is =
      let all = parts-all kept.lines (λ row. firsts (samples_at kept row) width) (λ row. row * width * each)
      (λ row. mul-le-mul_right each (mul-le-mul_right width (le_more row))) row-part kept.header.height in
      let none : 0 * width * each ≡ 0 = grind arith in
      let count : kept.header.height * width * each ≡ length kept.lines = turned kept.header.height width each ∙ sym is.count in
      all.1 ∙ ap (λ n. slice_range kept.lines n (kept.header.height * width * each)) none
      ∙ ap (λ n. take n kept.lines) (less_none (kept.header.height * width * each) ∙ count) ∙ take-length kept.lines where
        less_none : (n : ℕ) → n - 0 ≡ n
        less_none n = omega arith

        le_more : (row : ℕ) → row ≤ row + 1
        le_more row = omega arith

        turned : (h w n : ℕ) → h * w * n ≡ w * h * n
        turned h w n = grind arith
