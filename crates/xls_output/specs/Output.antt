-- What becomes of a text that is put into a writer: a sink and what is gathered for it.
use Rattle.std.specs.Prelude.{◌≡◌, ℕ, List, Result, MatchResult}
use Rattle.xls_output.specs.SinkState.{SinkState}
use Rattle.xls_output.specs.Gathering.{GathersText, Stops}
use Rattle.xls_output.specs.declared.stop.Stop.{Stop}
use Rattle.xls_output.specs.declared.writer.Writer.{Writer}

-- the state of a sink, what is kept for it, and the name of the reference by which it was lent
pub record Output : Type 1 where
  pub sink : SinkState
  pub kept : List ℕ
  pub lender : ℕ

-- those of a writer, by what its sink and its buffer tell
abbrev pub output_of : {K B : Type 0} → (K → SinkState) → (B → List ℕ) → Writer K B → Output
output_of state kept out = record { sink = state out.sink.now; kept = kept out.buffer.now; lender = out.sink.ghost_name }

-- those of a writer whose buffer is seen as what it keeps
abbrev pub output : {K : Type 0} → (K → SinkState) → Writer K (List ℕ) → Output
output state out = output_of state (λ (kept : List ℕ). kept) out

-- the text was gathered, and the sink is the same one
pub record Buffers (before after : Output) (text : List ℕ) : Type 0 where
  pub gathers : GathersText before.sink before.kept after.sink after.kept text
  pub same : after.lender ≡ before.lender

-- a prefix of what was kept and of the text was written, and then it was given up
pub record GivesUp (before after : Output) (text : List ℕ) (e : Stop) : Type 0 where
  pub stops : Stops before.sink before.kept after.sink text e
  pub same : after.lender ≡ before.lender

-- either of them
abbrev pub Puts : {X : Type 0} → Output → Output → List ℕ → Result X Stop → Type 0
Puts before after text result = MatchResult result (λ _. Buffers before after text) (GivesUp before after text)
