-- How a command ends.
use Rattle.std.specs.Prelude.{◌≡◌, ◌≢◌, ℕ, List, Option, Result, Ok, Err}
use Rattle.std.specs.Io.KnownBytes.{Keeps}
use Rattle.xls_record.specs.declared.error.XlsError.{XlsError}
use Rattle.xls_record.specs.declared.error.XlsError.TheVariants as errors
use Rattle.xls_meaning.specs.Reading.{BookView}
use Rattle.xls_meaning.specs.Faults.{FirstFault}
use Rattle.xls_open.specs.Workbook.{Workbook, view_of}
use Rattle.xls_open.specs.Opening.{IsOpened, default_options, default_rules}
use Rattle.xls_output.specs.Causes.{Rose}
use Rattle.xls_record.specs.SourceState.{SourceState}
use Rattle.xls_output.specs.SinkState.{SinkState}
use Rattle.xls_output.specs.Written.{Writes, WritesPart}
use Rattle.xls_report.specs.declared.ending.Ending.{Ending}
use Rattle.xls_report.specs.declared.ending.Ending.TheVariants.{Done, Refused}
use Rattle.xls_output.specs.declared.stop.Stop.{Stop}
use Rattle.xls_output.specs.declared.stop.Stop.TheVariants.{Read, Write, Memory}
use Rattle.xls_command.specs.Outputs.{IsOutput, IsRefusalText, MayWrite, HasRead, EndsWell, ReadsNothing}
use Rattle.xls_command.specs.declared.command.Command.{Command}

-- a count of faults did not rise, and is below its last value
abbrev pub IsQuiet : ℕ → ℕ → Type 0
IsQuiet before now = Rose before now → ⊥

-- what a command does to a source, from one state to the next
abbrev pub Reads : Command → SourceState → SourceState → Result Ending Stop → Type 0
Reads c was now (Ok Done) = HasRead c was now × (now.faults ≡ was.faults)
Reads c was now (Ok Refused) = Unit {0}
Reads c was now (Err Read) = (ReadsNothing c → ⊥) × Rose was.faults now.faults
Reads c was now (Err Write) = Unit {0}
Reads c was now (Err Memory) = Unit {0}

-- what a command over a source that had this left does to a sink
abbrev pub Ends : Command → Option (List ℕ) → SinkState → SinkState → Result Ending Stop → Type 0
Ends c left before after (Ok Done) =
    EndsWell c left 0 × Writes (IsOutput c left) before.written after.written
Ends c left before after (Ok Refused) =
    EndsWell c left 1 × Writes (IsRefusalText c left) before.written after.written
Ends c left before after (Err Read) = Keeps before.written after.written
Ends c left before after (Err Write) =
    Rose before.faults after.faults × WritesPart (MayWrite c left) before.written after.written
Ends c left before after (Err Memory) =
    EndsWell c left 5 × WritesPart (MayWrite c left) before.written after.written

-- ---- a view of the bytes that were read

-- the workbook that the bytes open to shows this
abbrev pub OpensTo : List ℕ → BookView → Type 0
OpensTo bytes view = (book : Workbook) × IsOpened default_options book bytes × (view_of book ≡ view)

-- why the bytes have no view: out of memory, or else their first fault
abbrev pub IsViewRefusal : List ℕ → XlsError → Type 0
IsViewRefusal bytes e = (e ≢ errors.Memory) → FirstFault default_rules bytes e
