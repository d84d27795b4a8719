use Rattle.std.proofs.Common.{◌≡◌, ◌*◌, ◌^◌, take}
use Rattle.lc_num.specs.Channels.{IsRgbWithin}
use Rattle.lc_cut.specs.Contribution.{plain_of}
use Rattle.lc_sample.proofs.plain.plain_of.Given as goal

abbrev pub invariant-loop-light : goal.invariant-loop-light
invariant-loop-light g l = record {
  value : l.sum ≡ plain_of g.K.Kind.meaning (g.T.Triangles.list l.scene) l.spot (take l.light-index l.light-items);
  small : IsRgbWithin (20_000 * 65_536 * 10 ^ 21 * l.light-index) l.sum;
}
