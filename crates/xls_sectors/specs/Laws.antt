-- The laws: every chain, stream and file has exactly one answer.
use Rattle.std.specs.Prelude.{◌≡◌, ◌⊎◌, ℕ, ◌≤◌, List, length, Option, None, Result, Ok}
use Rattle.xls_sectors.specs.declared.error.SectorFault.{SectorFault}
use Rattle.xls_sectors.specs.Chains.{Stops, Loops}
use Rattle.xls_sectors.specs.Streams.{Space, Stream, WholeChain}
use Rattle.xls_sectors.specs.Tables.{OpensSectors}

-- exactly one answer
pub record OneAnswer {X : Type 0} (Answers : Result X SectorFault → Type 0) : Type 0 where
  pub some : (result : Result X SectorFault) × Answers result
  pub same : (r s : Result X SectorFault) → Answers r → Answers s → r ≡ s

-- where all sectors are below a bound, a chain stops at one list of at most so many sectors, or it
-- loops, and never both
pub record OneOutcome (next : ℕ → Option ℕ) (bound first : ℕ) : Type 0 where
  pub some : ((sectors : List ℕ) × ((after : ℕ) × Stops next first sectors after × (length sectors ≤ bound)))
      ⊎ Loops next first
  pub sectors : (ss ts : List ℕ) (a b : ℕ) → Stops next first ss a → Stops next first ts b → ss ≡ ts
  pub after : (ss ts : List ℕ) (a b : ℕ) → Stops next first ss a → Stops next first ts b → a ≡ b
  pub apart : (ss : List ℕ) (a : ℕ) → Stops next first ss a → Loops next first → ⊥

abbrev pub ChainsHaveOneOutcome : Type 0
ChainsHaveOneOutcome = (next : ℕ → Option ℕ) (bound first : ℕ)
    → ((n : ℕ) → bound ≤ n → next n ≡ None) → OneOutcome next bound first

abbrev pub StreamsHaveOneAnswer : Type 0
StreamsHaveOneAnswer = (space : Space) (first size : ℕ) → OneAnswer (Stream space first size)

abbrev pub WholeChainsHaveOneAnswer : Type 0
WholeChainsHaveOneAnswer = (space : Space) (first : ℕ) → OneAnswer (WholeChain space first)

abbrev pub FilesHaveOneAnswer : Type 0
FilesHaveOneAnswer = (file : List ℕ) → OneAnswer (OpensSectors file)

-- a stream that is answered is whole
abbrev pub AnsweredStreamsAreWhole : Type 0
AnsweredStreamsAreWhole = (space : Space) (first size : ℕ) (bytes : List ℕ)
    → Stream space first size (Ok bytes) → length bytes ≡ size
