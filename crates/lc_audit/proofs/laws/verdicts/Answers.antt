use Rattle.lc_audit.proofs.Promises.{every_holds, named_fails, own_yes, some_hold}
use Rattle.lc_audit.proofs.laws.verdicts.Goals as goal

pub returns : goal.returns
returns c = record {
  every = every_holds;
  some = some_hold;
  no = named_fails;
  own = λ r scene job lines step valid least e. own_yes r scene job valid least lines step e;
}
