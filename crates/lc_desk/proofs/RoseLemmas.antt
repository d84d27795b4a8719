-- A count that has risen, over several calls.
use Rattle.std.proofs.Common.{ℕ, ◌≤◌, ◌<◌, ◌≡◌, ◌⊎◌, arith, inl, inr}
use Rattle.lc_desk.specs.Causes.{Rose, last_count, raised}

-- what rose in a call has risen by any later time
pub Rose-until : (before middle now : ℕ) → Rose before middle → middle ≤ now → Rose before now
Rose-until before middle now rose later = elim rose [ inl greater ↦ inl (omega arith) | inr last ↦ inr (omega arith) ]

-- what rose in a call has risen since any earlier time
pub Rose-since : (before middle now : ℕ) → before ≤ middle → Rose middle now → Rose before now
Rose-since before middle now earlier rose = elim rose [ inl greater ↦ inl (omega arith) | inr last ↦ inr last ]

-- a count that was raised once has risen
pub Rose-raised : (before now : ℕ) → raised before ≤ now → Rose before now
Rose-raised before now later = grind (arith)

-- a count of 64 bits that has risen is greater, or is the last value itself
pub Rose-exact : (before now : ℕ) → now ≤ last_count → Rose before now → (before < now) ⊎ (now ≡ last_count)
Rose-exact before now fits rose = elim rose [ inl greater ↦ inl greater | inr last ↦ inr (omega arith) ]
