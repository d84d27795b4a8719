-- The tests that a line has to pass, in their order. Each gives the kind of its fault where it fails; a reader has
-- kinds of its own.
use Rattle.std.specs.Prelude.{◌≡◌, Bool, List, [], ◌∷◌, Option, Some, None, if◌then◌else◌, Result, MatchResult}

-- the kind, where the test does not pass
abbrev pub unless : {K : Type 0} → Bool → K → Option K
unless passes kind = if passes then None else Some kind

-- the kind of the first test that fails
abbrev pub first_kind : {K : Type 0} → List (Option K) → Option K
first_kind [] = None
first_kind (None ∷ later) = first_kind later
first_kind (Some kind ∷ later) = Some kind

-- an answer to a line whose tests come to a fault or none: the kind of the fault, or else what the line says
abbrev pub IsAnswer : {K V : Type 0} → Option K → V → Result V K → Type 0
IsAnswer fault said answer = MatchResult answer (λ value. (fault ≡ None) × (said ≡ value)) (λ kind. fault ≡ Some kind)

-- the same where the line says no more than that no test fails
abbrev pub IsTested : {K V : Type 0} → Option K → Result V K → Type 0
IsTested fault answer = MatchResult answer (λ _. fault ≡ None) (λ kind. fault ≡ Some kind)
