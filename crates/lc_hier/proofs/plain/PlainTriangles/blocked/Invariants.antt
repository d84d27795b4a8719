use Rattle.std.proofs.Common.{◌≡◌, drop}
use Rattle.lc_geom.specs.Hits.{blocked}
use Rattle.lc_hier.proofs.plain.PlainTriangles.blocked.Given as goal

abbrev pub invariant-loop-t : goal.invariant-loop-t
invariant-loop-t l = blocked l.p l.q (drop l.t-index l.t-items) ≡ blocked l.p l.q l.t-items
