-- What becomes of a text that is gathered before it is written, from one state of the sink to the next.
-- What was gathered and is not yet written is kept.
use Rattle.std.specs.Prelude.{◌≡◌, ℕ, ◌+◌, ◌≤◌, List, [], ◌++◌, length, Option, Result, MatchResult}
use Rattle.std.specs.Io.KnownBytes.{Appends}
use Rattle.xls_output.specs.Causes.{Rose}
use Rattle.xls_output.specs.SinkState.{SinkState}
use Rattle.xls_output.specs.Written.{AppendsPrefix}
use Rattle.xls_output.specs.declared.stop.Stop.{Stop}
use Rattle.xls_output.specs.declared.stop.Stop.TheVariants.{Read, Write, Memory}

-- why a text is not written to its end: a write fault has its count, out of memory is free
abbrev pub WriteCause : ℕ → ℕ → Stop → Type 0
WriteCause before now Read = ⊥
WriteCause before now Write = Rose before now
WriteCause before now Memory = Unit {0}

-- what is written, and what is kept after it, grew by the text
abbrev pub GrowsSink : Option (List ℕ) → List ℕ → Option (List ℕ) → List ℕ → List ℕ → Type 0
GrowsSink old kept new kept' text =
    (start : List ℕ) × (kept ++ text ≡ start ++ kept') × Appends old new start

-- the text was gathered; where the sink takes all, no write failed, and it takes as much less
pub record GathersText (before : SinkState) (kept : List ℕ) (after : SinkState) (kept' text : List ℕ) : Type 0 where
  pub grows : GrowsSink before.written kept after.written kept' text
  pub later : before.faults ≤ after.faults
  pub steady : (n : ℕ) → length kept + length text ≤ n → before.takes n
      → (after.faults ≡ before.faults) × (m : ℕ) × after.takes m
      × (m + (length kept + length text) ≡ n + length kept')

-- a prefix of what was kept and of the text was written, and then it was given up
pub record Stops (before : SinkState) (kept : List ℕ) (after : SinkState) (text : List ℕ) (e : Stop) : Type 0 where
  pub start : AppendsPrefix before.written after.written (kept ++ text)
  pub cause : WriteCause before.faults after.faults e
  pub later : before.faults ≤ after.faults
  pub steady : (n : ℕ) → length kept + length text ≤ n → before.takes n → after.faults ≡ before.faults

-- either of them
abbrev pub PutsInto : {X : Type 0} → SinkState → List ℕ → SinkState → List ℕ → List ℕ → Result X Stop → Type 0
PutsInto before kept after kept' text result =
    MatchResult result (λ _. GathersText before kept after kept' text) (Stops before kept after text)

-- ---- a whole text

-- the text was written; no write failed where the sink takes it
pub record Wrote (before after : SinkState) (text : List ℕ) : Type 0 where
  pub appends : Appends before.written after.written text
  pub steady : (n : ℕ) → length text ≤ n → before.takes n → after.faults ≡ before.faults

-- the text was written, or a prefix of it
abbrev pub Delivers : {X : Type 0} → SinkState → SinkState → List ℕ → Result X Stop → Type 0
Delivers before after text result =
    MatchResult result (λ _. Wrote before after text) (Stops before [] after text)
