-- What a source tells of itself.
use Rattle.std.specs.Prelude.{ℕ, ◌+◌, ◌≤◌, List, length, Option}
use Rattle.std.specs.Io.KnownBytes.{Consumes}

-- the bytes that are still to come, where the source tells them; and how often a read has failed, up to a last value
pub record SourceState : Type 0 where
  pub left : Option (List ℕ)
  pub faults : ℕ

-- a prefix of what was left was taken, of one byte more than the limit at most
abbrev pub TakesWithin : ℕ → SourceState → SourceState → Type 0
TakesWithin limit was now = (taken : List ℕ) × (length taken ≤ limit + 1) × Consumes was.left now.left taken
