-- Where a text is faulty.
use Rattle.std.specs.Prelude.{ℕ}

-- the number of a faulty line, counted from 1, and the kind of the first test that it fails
pub record Fault : Type 0 where
  pub line : ℕ
  pub kind : ℕ
