use Rattle.lc_tree.proofs.Extents.{some_vector, one_vector, longest_is}
use Rattle.lc_tree.proofs.laws.longest_extents.Goals as goal

pub returns : goal.returns
returns g c = record {
  some = λ es h. some_vector es h;
  one = λ es v w h k. one_vector es v w h k;
  longest = λ es v h. longest_is es v h;
}
