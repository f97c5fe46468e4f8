-- What a view of a stream shows, and what making one answers.
use Rattle.std.specs.Prelude.{◌≡◌, ℕ, List, Option}
use Rattle.std.specs.List.{AllZip}
use Rattle.xls_stream.specs.Listing.{ListEntry, Carries}
use Rattle.xls_record.specs.declared.error.XlsError.{XlsError}
use Rattle.xls_record.specs.declared.error.XlsError.TheVariants as errors
use Rattle.xls_biff.specs.SheetTable.{CellContext}
use Rattle.xls_formula.specs.Context.{Context}
use Rattle.xls_meaning.specs.Rules.{Rules}
use Rattle.xls_meaning.specs.Settings.{Settings, SheetRecords, sheets_of, context_of, codes_in, identifiers_in, settings_of}
use Rattle.xls_meaning.specs.Reading.{BookView, IsReading, kept_named, paired, last_named}
use Rattle.xls_meaning.specs.Faults.{IsFull}
use Rattle.xls_open.specs.Checking.{FirstChecked}
use Rattle.xls_view.specs.Formulas.{Formula, AreLast, formulas_kept}
use Rattle.xls_view.specs.Formats.{FormattedCell, formatted_after, no_formula}

-- what a workbook shows, what is in force for its cells, what its formulas may name, the formulas that each
-- index shows, by their tokens, and its cells with their XF indices; the format identifier of each XF, and
-- identifier and code of each Format
pub record Viewed : Type 0 where
  pub book : BookView
  pub cells : CellContext
  pub context : Context
  pub formulas : List (List Formula)
  pub formatted : List (List FormattedCell)
  pub identifiers : List ℕ
  pub codes : List (ℕ × List ℕ)

-- the formulas of the last sheet of a name
abbrev pub formulas_named : Viewed → List ℕ → Option (List Formula)
formulas_named v name = last_named (paired v.book.sheets v.formulas) name

-- its cells with their XF indices
abbrev pub formatted_named : Viewed → List ℕ → Option (List FormattedCell)
formatted_named v name = last_named (paired v.book.sheets v.formatted) name

-- each sheet shows the formulas of the last sheet of its name
abbrev pub ShowsFormulas : List SheetRecords → List Formula → SheetRecords → Type 0
ShowsFormulas all formulas q = AreLast (formulas_kept (kept_named all q.0.name)) formulas

-- and its cells
abbrev pub ShowsFormatted : Settings → List SheetRecords → List FormattedCell → SheetRecords → Type 0
ShowsFormatted s all cells q = AreLast (formatted_after s no_formula (kept_named all q.0.name)) cells

-- no place of the bytes has a fault, the byte limit apart; they carry a full list, and the view shows
-- the reading of every list that they carry
pub record IsViewed (rules : Rules) (bytes : List ℕ) (view : Viewed) : Type 0 where
  pub sound : (e : XlsError) → FirstChecked rules.force_codepage rules.max_cells bytes e → ⊥
  pub entries : List ListEntry
  pub carries : Carries bytes entries
  pub full : IsFull rules entries
  pub every : (others : List ListEntry) → Carries bytes others → IsReading rules others view.book
  pub context : (others : List ListEntry) → Carries bytes others → view.context ≡ context_of rules others
  pub formulas : (others : List ListEntry) → Carries bytes others
      → AllZip (ShowsFormulas (sheets_of rules others)) view.formulas (sheets_of rules others)
  pub formatted : (others : List ListEntry) → Carries bytes others
      → AllZip (ShowsFormatted (settings_of rules others) (sheets_of rules others)) view.formatted (sheets_of rules others)
  pub identifiers : (others : List ListEntry) → Carries bytes others → view.identifiers ≡ identifiers_in rules others
  pub codes : (others : List ListEntry) → Carries bytes others → view.codes ≡ codes_in rules others

-- e is the first fault of the bytes, the byte limit apart
abbrev pub IsViewFault : Rules → List ℕ → XlsError → Type 0
IsViewFault rules bytes e = FirstChecked rules.force_codepage rules.max_cells bytes e

-- why there is no view: out of memory, or else the first fault of the bytes
abbrev pub ViewCause : Rules → List ℕ → XlsError → Type 0
ViewCause rules bytes errors.Memory = Unit {0}
ViewCause rules bytes e = IsViewFault rules bytes e
