use Rattle.std.proofs.Common.{Some}
use Rattle.lc_rated.proofs.NodeFinding.{root_at, left_of, right_of}
use Rattle.lc_rated.proofs.laws.node_numbers.Goals as goal

pub returns : goal.returns
returns c = record {
  root = root_at;
  left = λ tree. left_of (Some tree);
  right = λ tree. right_of (Some tree);
}
