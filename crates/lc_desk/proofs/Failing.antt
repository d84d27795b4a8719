-- The calls that are to fail.
use Rattle.std.proofs.Common.{◌≡◌, ℕ, ◌==◌, List, [], ◌∷◌, ◌++◌, Some, None, if◌then◌else◌, arith}
use Rattle.std.proofs.lemmas.Grind.{common_steps}
use Rattle.lc_desk.specs.declared.memory.Failure.{Failure}
use Rattle.lc_desk.specs.Memory.{taken_at, or_else}

-- one more entry counts where none before it does
pub taken_at-push : (call : ℕ) (failing : List Failure) (f : Failure) → taken_at call (failing ++ f ∷ []) ≡ or_else (taken_at call failing) (if f.call == call then Some f.taken else None)
taken_at-push call [] f = grind (arith, common_steps)
taken_at-push call (e ∷ es) f = let h = taken_at-push call es f in grind (arith, common_steps, h)
