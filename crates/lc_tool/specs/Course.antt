-- How a command goes by its definition: the names of the files that it reads, in order, and how it ends.
use Rattle.std.specs.Prelude.{ℕ, List, [], ◌++◌, Option, option_map, Result, Ok, Err}
use Rattle.lc_desk.specs.Desk.{Files}

-- the status of a refusal, and its line on Note
pub record Refusal : Type 0 where
  pub status : ℕ
  pub line : List ℕ

pub record Course (A : Type 0) : Type 0 where
  pub reads : List (List ℕ)
  pub end : Result A Refusal

abbrev pub refuses : {A : Type 0} → ℕ → List ℕ → Result A Refusal
refuses status line = Err (record { status = status; line = line })

abbrev pub goes_on : {A B : Type 0} → List (List ℕ) → Result A Refusal → (A → Course B) → Course B
goes_on reads (Ok a) next = record { reads = reads ++ (next a).reads; end = (next a).end }
goes_on reads (Err r) next = record { reads = reads; end = Err r }

-- one step, and then the next
abbrev pub and_then : {A B : Type 0} → Course A → (A → Course B) → Course B
and_then step next = goes_on step.reads step.end next

-- a step that reads nothing
abbrev pub at_once : {A : Type 0} → Result A Refusal → Course A
at_once end = record { reads = []; end = end }

-- the course over the files that a desk holds, where it tells them
abbrev pub told : {A : Type 0} → (Files → Course A) → Option Files → Option (Course A)
told course held = option_map course held
