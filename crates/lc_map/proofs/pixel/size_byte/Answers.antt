use Rattle.std.proofs.Common.{◌≡◌, ◌≤◌, ◌*◌, ◌/◌, ℕ, List, length, sum_by, take, All, arith, rules}
use Rattle.std.proofs.lemmas.Grind.{common_steps}
use Rattle.std.proofs.lemmas.List.Elements.{All-weaker}
use Rattle.std.proofs.lemmas.List.Sums.{sum_by-le, sum_by-take-le}
use Rattle.std.proofs.Math.Nat.{div-le_of_le-mul, mul-le-mul}
use Rattle.lc_rated.specs.declared.answer.Answer.{Answer}
use Rattle.lc_record.specs.Record.{IsSample}
use Rattle.lc_map.specs.Map.{size_byte}
use Rattle.lc_map.proofs.pixel.size_byte.Goals as goal

abbrev size_of : Answer → ℕ
size_of a = a.size

-- the sizes of the cuts together
whole : (greatest : ℕ) (samples : List Answer) → All (IsSample greatest) samples → sum_by size_of samples ≤ length samples * greatest
whole greatest samples valid = sum_by-le size_of greatest samples (All-weaker (IsSample greatest) (λ a. a.size ≤ greatest) (λ a is. is.size) samples valid)

few : (greatest count : ℕ) → greatest ≤ 65_536 → count ≤ 256 → count * greatest ≤ 16_777_216
few greatest count g n = mul-le-mul {n₂ = 256} {m₂ = 65_536} n g

pub overflow_add-sum : goal.overflow_add-sum
overflow_add-sum c =
    let samples = c.args.samples.now in
    let most : sum_by size_of samples ≤ length samples * c.args.greatest = whole c.args.greatest samples c.requires.valid in
    let room : length samples * c.args.greatest ≤ 16_777_216 = few c.args.greatest (length samples) c.requires.greatest.1 c.requires.some.1 in
    let part : sum_by size_of (take c.loop-sample.sample-index samples) ≤ sum_by size_of samples = sum_by-take-le size_of samples c.loop-sample.sample-index in
    omega (arith, c.loop-sample.invariant)

pub overflow_mul-result : goal.overflow_mul-result
overflow_mul-result c =
    let samples = c.args.samples.now in
    let most : sum_by size_of samples ≤ length samples * c.args.greatest = whole c.args.greatest samples c.requires.valid in
    let room : length samples * c.args.greatest ≤ 16_777_216 = few c.args.greatest (length samples) c.requires.greatest.1 c.requires.some.1 in
    let part : sum_by size_of (take c.loop-sample.sample-index samples) ≤ sum_by size_of samples = sum_by-take-le size_of samples c.loop-sample.sample-index in
    omega (arith, c.loop-sample.invariant)

pub overflow_cast-result : goal.overflow_cast-result
overflow_cast-result c =
    let samples = c.args.samples.now in
    let most : sum_by size_of samples ≤ length samples * c.args.greatest = whole c.args.greatest samples c.requires.valid in
    let part : sum_by size_of (take c.loop-sample.sample-index samples) ≤ sum_by size_of samples = sum_by-take-le size_of samples c.loop-sample.sample-index in
    let same : c.from.result ≡ c.args.greatest = search rules in
    let times : 255 * c.loop-sample.sum ≤ (length samples * c.from.result) * 255 = rw same (omega (arith, c.loop-sample.invariant)) in
    let fits : 255 * c.loop-sample.sum / (length samples * c.from.result) ≤ 255 = div-le_of_le-mul (length samples * c.from.result) times in
    omega arith

pub returns : goal.returns
unfolding size_byte
returns c = grind (arith, common_steps)
