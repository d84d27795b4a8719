-- The picture that maps what a record says, pixel by pixel.
use Rattle.std.specs.Prelude.{ℕ, ◌+◌, ◌*◌, ◌/◌, List, [], ◌∷◌, ◌++◌, length, flat_map, sum_by}
use Rattle.std.specs.List.{count_by, list_any, range_with_len, slice_range}
use Rattle.lc_algebra.specs.Greatest.{greatest_up_to}
use Rattle.lc_rated.specs.declared.answer.Answer.{Answer}
use Rattle.lc_record.specs.declared.head.Header.{Header}
use Rattle.lc_record.specs.declared.reader.Record.{Record}
use Rattle.lc_tone.specs.Tone as tone
use Rattle.lc_map.specs.Scale.{misses, sample_reaches}
use Rattle.lc_map.specs.declared.kind.Kind.{Kind}
use Rattle.lc_map.specs.declared.kind.Kind.TheVariants.{Bound, Size, Missed}

-- ---- a pixel

-- the greatest byte that some sample reaches in some channel, or 0 where there is none
unfoldable pub bound_byte : List Answer → ℕ
bound_byte samples = greatest_up_to (λ byte. list_any (sample_reaches byte) samples) 255

-- the mean size of the cuts as a share of the greatest
unfoldable pub size_byte : ℕ → List Answer → ℕ
size_byte greatest samples = 255 * sum_by (λ (a : Answer). a.size) samples / (length samples * greatest)

-- how many of the samples miss the permille
unfoldable pub missed_byte : ℕ → List Answer → ℕ
missed_byte permille samples = 255 * count_by (misses permille) samples / length samples

abbrev pub byte_of : Kind → Header → List Answer → ℕ
byte_of Bound header samples = bound_byte samples
byte_of Size header samples = size_byte header.cut samples
byte_of Missed header samples = missed_byte header.permille samples

-- ---- the picture

-- how many samples a pixel has
abbrev pub per_pixel : Header → ℕ
per_pixel header = header.grid * header.grid

-- the lines of so many pixels that stand one after another, from the one of this number on
abbrev pub lines_from : Record → ℕ → ℕ → List Answer
lines_from kept first end = slice_range kept.lines (first * per_pixel kept.header) (end * per_pixel kept.header)

-- the lines of a pixel: the pixels are counted by rows from the top, and in each from the left
abbrev pub samples_at : Record → ℕ → ℕ → List Answer
samples_at kept row col = lines_from kept (row * kept.header.width + col) (row * kept.header.width + col + 1)

-- the samples of the pixels of a row, from the left
abbrev pub row_samples : Record → ℕ → List Answer
row_samples kept row = flat_map (samples_at kept row) (range_with_len 0 kept.header.width)

-- the three bytes of a grey pixel
abbrev pub grey : ℕ → List ℕ
grey byte = byte ∷ byte ∷ byte ∷ []

-- the bytes of a pixel
unfoldable pub pixel_bytes : Kind → Record → ℕ → ℕ → List ℕ
pixel_bytes kind kept row col = grey (byte_of kind kept.header (samples_at kept row col))

-- the bytes of a row of pixels, from the left
unfoldable pub row_bytes : Kind → Record → ℕ → List ℕ
row_bytes kind kept row = flat_map (pixel_bytes kind kept row) (range_with_len 0 kept.header.width)

-- the binary PPM picture of a record, its rows from the top
unfoldable pub map_bytes : Kind → Record → List ℕ
map_bytes kind kept =
    tone.header_bytes kept.header.width kept.header.height
    ++ flat_map (row_bytes kind kept) (range_with_len 0 kept.header.height)
