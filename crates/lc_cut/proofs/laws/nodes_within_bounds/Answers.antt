use Rattle.std.proofs.Common.{refl}
use Rattle.lc_cut.proofs.NodeBounds.{node_bounded, node_sharper}
use Rattle.lc_cut.proofs.laws.nodes_within_bounds.Goals as goal

pub returns : goal.returns
returns g c = record {
  bounded = λ ts spot r lights root t p hs tree e. node_bounded g.K.Kind.meaning g.met.K.Kind.laws lights root tree ts spot hs r p t e;
  sharper = λ ts spot lights root t p hs tree e. node_sharper g.K.Kind.meaning g.met.K.Kind.laws lights root tree ts spot hs p t e;
  same = λ ts spot r t. refl;
}
