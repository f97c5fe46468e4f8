-- How a writer of texts ends.
use Rattle.std.specs.Prelude.{◌≡◌, ◌≢◌, ◌⊎◌, ℕ, List, [], Result, Ok, Err}
use Rattle.std.specs.Io.KnownBytes.{Keeps}
use Rattle.xls_record.specs.declared.error.XlsError.{XlsError}
use Rattle.xls_record.specs.declared.error.XlsError.TheVariants as errors
use Rattle.xls_output.specs.SinkState.{SinkState}
use Rattle.xls_output.specs.Gathering.{Stops, Wrote}
use Rattle.xls_report.specs.Faults.{fault_line}
use Rattle.xls_report.specs.declared.ending.Ending.{Ending}
use Rattle.xls_report.specs.declared.ending.Ending.TheVariants.{Done, Refused}
use Rattle.xls_output.specs.declared.stop.Stop.{Stop}
use Rattle.xls_output.specs.declared.stop.Stop.TheVariants.{Read, Write, Memory}

-- nothing was written, and no write failed
abbrev pub IsUntouched : SinkState → SinkState → Type 0
IsUntouched before after = Keeps before.written after.written × (after.faults ≡ before.faults)

-- ---- a refusal

-- an error that the bytes have
abbrev pub IsStreamFault : XlsError → Type 0
IsStreamFault e = (e ≢ errors.Io) × (e ≢ errors.Memory)

-- where reading or opening answers an error: its line, if the bytes have it; a read fault and out of
-- memory write nothing
abbrev pub EndsWithError : XlsError → SinkState → SinkState → Result Ending Stop → Type 0
EndsWithError e before after (Ok Done) = ⊥
EndsWithError e before after (Ok Refused) = IsStreamFault e × Wrote before after (fault_line e)
EndsWithError e before after (Err Read) = (e ≡ errors.Io) × IsUntouched before after
EndsWithError e before after (Err Write) = IsStreamFault e × Stops before [] after (fault_line e) Write
EndsWithError e before after (Err Memory) =
    IsUntouched before after ⊎ (IsStreamFault e × Stops before [] after (fault_line e) Memory)

-- ---- a text of a kind

-- a text of this kind was written, or a prefix of it; out of memory to make it nothing was written
abbrev pub EndsWithText : (List ℕ → Type 0) → SinkState → SinkState → Result Ending Stop → Type 0
EndsWithText IsText before after (Ok Done) = (text : List ℕ) × IsText text × Wrote before after text
EndsWithText IsText before after (Ok Refused) = ⊥
EndsWithText IsText before after (Err e) =
    ((e ≡ Memory) × IsUntouched before after)
    ⊎ ((text : List ℕ) × IsText text × Stops before [] after text e)

-- ---- a text of one of two kinds

-- a text of the first kind was written at the end, or one of the second at a refusal, or a prefix of one; out
-- of memory to make it nothing was written
abbrev pub EndsWithEither : (IsDone IsRefused : List ℕ → Type 0) → SinkState → SinkState → Result Ending Stop → Type 0
EndsWithEither IsDone IsRefused before after (Ok Done) = (text : List ℕ) × IsDone text × Wrote before after text
EndsWithEither IsDone IsRefused before after (Ok Refused) =
    (text : List ℕ) × IsRefused text × Wrote before after text
EndsWithEither IsDone IsRefused before after (Err e) =
    ((e ≡ Memory) × IsUntouched before after)
    ⊎ ((text : List ℕ) × (IsDone text ⊎ IsRefused text) × Stops before [] after text e)
