use Rattle.std.proofs.Common.{◌≡◌, ◌≤◌, ◌+◌, ◌*◌, ℕ, length, arith, sym, subst}
use Rattle.std.proofs.Math.Nat.{mul-le-mul}
use Rattle.lc_map.proofs.Places.{pixel-inside, samples-few, samples-inside}
use Rattle.lc_map.proofs.rows.samples_at.Goals as goal

few : (grid : ℕ) → grid ≤ 16 → grid * grid ≤ 256
few grid g = mul-le-mul {n₂ = 16} {m₂ = 16} g g

pub offset_bounds-as_slice-pixel : goal.offset_bounds-as_slice-pixel
offset_bounds-as_slice-pixel c =
    let h = c.args.kept.now.header in
    let is = c.requires.kept.1.header in
    let pixel : c.args.row * h.width + c.args.col + 1 ≤ h.width * h.height = pixel-inside h.width h.height c.args.row c.args.col c.requires.row c.requires.col in
    let before : c.args.row * h.width + c.args.col ≤ h.width * h.height = omega (arith, pixel) in
    let most : (c.args.row * h.width + c.args.col) * (h.grid * h.grid) ≤ 4_294_967_296 =
    samples-few h.width h.height (h.grid * h.grid) (c.args.row * h.width + c.args.col) is.width.1 is.height.1 (few h.grid is.grid.1) before in
    omega (arith, most)

pub slice_bounds-result-end : goal.slice_bounds-result-end
slice_bounds-result-end c =
    let h = c.args.kept.now.header in
    let end : (c.args.row * h.width + c.args.col + 1) * (h.grid * h.grid) ≤ h.width * h.height * (h.grid * h.grid) =
    samples-inside h.width h.height (h.grid * h.grid) c.args.row c.args.col c.requires.row c.requires.col in
    let whole : length c.as_slice.result.now ≡ h.width * h.height * (h.grid * h.grid) = subst (λ l. length l ≡ h.width * h.height * (h.grid * h.grid)) (sym c.as_slice.ensures) c.requires.kept.1.count in
    rw whole end
