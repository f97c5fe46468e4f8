-- What reading a source and opening its bytes answer.
use Rattle.std.specs.Prelude.{◌≡◌, ℕ, ◌≤◌, List, length, None, Result, IfOk, IfErr, OnOk, IfSome}
use Rattle.std.specs.Io.KnownBytes.{IsAtEnd}
use Rattle.xls_stream.specs.Listing.{ListEntry, Carries}
use Rattle.xls_record.specs.declared.error.XlsError.{XlsError}
use Rattle.xls_record.specs.declared.error.XlsError.TheVariants as errors
use Rattle.xls_data.specs.declared.regions.HeaderRow.TheVariants.{FirstNonEmptyRow}
use Rattle.xls_formula.specs.Functions.{shipped}
use Rattle.xls_output.specs.Causes.{Rose}
use Rattle.xls_record.specs.SourceState.{SourceState, TakesWithin}
use Rattle.xls_meaning.specs.Rules.{Rules}
use Rattle.xls_open.specs.Workbook.{Workbook, rules_of, view_of}
use Rattle.xls_meaning.specs.Reading.{IsReading}
use Rattle.xls_meaning.specs.Faults.{FirstFault, IsSound}
use Rattle.xls_open.specs.declared.options.XlsOptions.{XlsOptions}

-- why a stream isn't opened: Io by its count, Memory freely, and else the first fault of the bytes
abbrev pub OpenCause : XlsOptions → SourceState → SourceState → XlsError → Type 0
OpenCause options was now errors.Io = Rose was.faults now.faults
OpenCause options was now errors.Memory = Unit {0}
OpenCause options was now e = IfSome was.left (λ bytes. FirstFault (rules_of options) bytes e)

-- the options by default
abbrev pub default_options : XlsOptions
default_options = record {
  force_codepage = None;
  header_row = FirstNonEmptyRow;
  max_bytes = 268_435_456;
  max_cells = 33_554_432;
  functions = shipped;
  summary = None;
  document_summary = None;
}

-- what the reading hangs on by default
abbrev pub default_rules : Rules
default_rules = rules_of default_options

-- the refusals that opening may answer: none that only a formula, a format or a look-up has
abbrev pub IsOfOpening : XlsError → Type 0
IsOfOpening errors.StackLen = ⊥
IsOfOpening (errors.InvalidFormula count) = ⊥
IsOfOpening (errors.IfTab index) = ⊥
IsOfOpening (errors.Etpg number) = ⊥
IsOfOpening (errors.InvalidFormat ifmt) = ⊥
IsOfOpening (errors.WorksheetNotFound name) = ⊥
IsOfOpening e = Unit {0}

-- no place of the bytes has a fault; they are within the limit and carry a list, and the workbook keeps the
-- options and is the reading of every list that they carry (`sound_where_full`: that list is full)
pub record IsOpened (options : XlsOptions) (book : Workbook) (bytes : List ℕ) : Type 0 where
  pub sound : IsSound (rules_of options) bytes
  pub within : length bytes ≤ options.max_bytes
  pub entries : List ListEntry
  pub carries : Carries bytes entries
  pub kept : book.options ≡ options
  pub every : (others : List ListEntry) → Carries bytes others
      → IsReading (rules_of options) others (view_of book)

-- by the states of the source before and after
pub record Opens (options : XlsOptions) (was now : SourceState) (result : Result Workbook XlsError) : Type 0 where
  pub ok : IfOk result (λ book. IfSome was.left (IsOpened options book))
  pub end : IfOk result (λ _. IsAtEnd now.left)
  pub cause : IfErr result (OpenCause options was now)
  pub named : IfErr result IsOfOpening
  pub complete : (Rose was.faults now.faults → ⊥)
      → IfSome was.left (λ bytes. IsSound (rules_of options) bytes → IfErr result (λ e. e ≡ errors.Memory))
  pub prefix : TakesWithin options.max_bytes was now
  pub count : was.faults ≤ now.faults
  pub faultless : OnOk result (now.faults ≡ was.faults)
