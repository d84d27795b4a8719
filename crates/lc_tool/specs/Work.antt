-- What a command does once all is read: the begins and puts that it makes, and how many lights it evaluates for them.
use Rattle.std.specs.Prelude.{ℕ, List, [], Result, Ok, Err}
use Rattle.lc_desk.specs.Calls.{Call}
use Rattle.lc_tool.specs.Course.{Refusal}

pub record Work : Type 0 where
  pub calls : List Call
  pub evals : ℕ

-- the calls at the end of a course; where something is refused there are none
abbrev pub calls_of : Result Work Refusal → List Call
calls_of (Ok work) = work.calls
calls_of (Err refusal) = []
