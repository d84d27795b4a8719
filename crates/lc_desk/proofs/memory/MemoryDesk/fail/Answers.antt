use Rattle.lc_desk.proofs.Failing.{taken_at-push}
use Rattle.lc_desk.proofs.memory.MemoryDesk.fail.Goals as goal

pub returns-clause-added : goal.returns-clause-added
returns-clause-added c = λ call. rw c.in_ok-push.ensures.items (taken_at-push call c.args.self.now.failing.items _)
