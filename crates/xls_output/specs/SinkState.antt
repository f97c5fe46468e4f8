-- What a sink tells of itself.
use Rattle.std.specs.Prelude.{◌≡◌, ℕ, ◌+◌, ◌-◌, ◌≤◌, List, [], length, Option, Some, Result, IsOk, IfOk}

-- the text that was written, where the sink tells it; how often a write has failed, up to a last value;
-- and how many more bytes are taken without a fault, where it promises that
pub record SinkState : Type 1 where
  pub written : Option (List ℕ)
  pub faults : ℕ
  pub takes : ℕ → Type 0

-- a piece that the sink takes is written without a fault, and as many bytes less are taken after it
abbrev pub TakesPiece : {E : Type 0} → SinkState → SinkState → List ℕ → Result ℕ E → Type 0
TakesPiece before after piece result =
    (n : ℕ) → length piece ≤ n → before.takes n
    → IsOk result × IfOk result (λ k. after.takes (n - k)) × (after.faults ≡ before.faults)

-- each text of this kind is taken without a fault
abbrev pub TakesEach : SinkState → (List ℕ → Type 0) → Type 0
TakesEach state IsText =
    (n : ℕ) × state.takes n × ((text : List ℕ) → IsText text → length text ≤ n)

-- ---- in memory

-- a sink in memory
pub record MemoryText : Type 0 where
  pub text : List ℕ
  -- how long the text may be
  pub room : ℕ
  -- at most so many bytes at a time
  pub chunk : ℕ
  -- the numbers of the calls that fail
  pub failing : List ℕ
  -- the number of the next call
  pub call : ℕ
  pub faults : ℕ

-- an empty text, before the first call
abbrev pub empty_memory : ℕ → ℕ → List ℕ → MemoryText
empty_memory room chunk failing = record {
  text = [];
  room = room;
  chunk = chunk;
  failing = failing;
  call = 0;
  faults = 0;
}

-- where no call is to fail, it takes as much as there is room for
abbrev pub memory_state : MemoryText → SinkState
memory_state m = record {
  written = Some m.text;
  faults = m.faults;
  takes = λ n. (m.failing ≡ []) × (length m.text + n ≤ m.room);
}
