-- Laws over opening and the check of a stream.
use Rattle.std.specs.Prelude.{◌≡◌, ◌↔◌, ℕ, ◌≤◌, List, length, Option, None, Some, Result, Ok, Err}
use Rattle.std.specs.Io.KnownBytes.{IsAtEnd}
use Rattle.xls_stream.specs.Walks.{IsBytes}
use Rattle.xls_stream.specs.Listing.{ListEntry, Carries}
use Rattle.xls_record.specs.declared.error.XlsError.{XlsError}
use Rattle.xls_record.specs.declared.error.XlsError.TheVariants as errors
use Rattle.xls_layouts.specs.Layout.{Layout, lay, list_of, IsLayout}
use Rattle.xls_meaning.specs.Rules.{Rules}
use Rattle.xls_text.specs.declared.encoding.XlsEncoding.{XlsEncoding}
use Rattle.xls_record.specs.declared.version.Biff.{Biff}
use Rattle.xls_meaning.specs.GlobalsTable.{forced_fault, entry_record_at, page_from, version_from}
use Rattle.xls_meaning.specs.Settings.{said_by}
use Rattle.xls_meaning.specs.Reading.{IsReading}
use Rattle.xls_meaning.specs.Faults.{FirstFault, IsSound, IsFull}
use Rattle.xls_output.specs.Causes.{Rose}
use Rattle.xls_record.specs.SourceState.{SourceState}
use Rattle.xls_open.specs.Workbook.{Workbook, rules_of, view_of}
use Rattle.xls_open.specs.Opening.{IsOpened, Opens}
use Rattle.xls_open.specs.Checking.{FirstChecked, Checks}
use Rattle.xls_open.specs.declared.options.XlsOptions.{XlsOptions}

-- within the byte limit, the first fault of a stream is the one that a check finds under the forced page
-- and the bound of cells, whatever the limit, the functions and the style are
abbrev pub CheckedAlike : Type 0
CheckedAlike =
    (rules : Rules) (bytes : List ℕ) → length bytes ≤ rules.max_bytes → (e : XlsError)
    → FirstFault rules bytes e ↔ FirstChecked rules.force_codepage rules.max_cells bytes e

-- which page and which version an entry gives hangs on neither that is in force: `said_by` has them
abbrev pub PagesHangOnNothing : Type 0
PagesHangOnNothing =
    (forced : Option ℕ) (page : XlsEncoding) (version : Biff) (e : ListEntry)
    → (page_from (entry_record_at forced page version e) ≡ page_from (said_by forced e))
    × (version_from (entry_record_at forced page version e) ≡ version_from (said_by forced e))

-- ---- one list

-- a stream carries at most one list; within the limit it has no fault exactly where the forced page, if
-- any, is kept and it carries a full list
pub record HasOneList (rules : Rules) (bytes : List ℕ) : Type 0 where
  pub one : (entries others : List ListEntry) → Carries bytes entries → Carries bytes others → entries ≡ others
  pub full : length bytes ≤ rules.max_bytes
      → IsSound rules bytes
      ↔ ((forced_fault rules.force_codepage ≡ None) × (entries : List ListEntry) × Carries bytes entries
      × IsFull rules entries)

abbrev pub OneListPerStream : Type 0
OneListPerStream = (rules : Rules) (bytes : List ℕ) → IsBytes bytes → HasOneList rules bytes

-- two streams that carry one list, opened under the same options, give one workbook: sheets, values,
-- formula texts, merged regions, defined names, date system and classes
abbrev pub SameListSameBook : Type 0
SameListSameBook =
    (options : XlsOptions) (bytes others : List ℕ) (entries : List ListEntry)
    → Carries bytes entries → Carries others entries
    → (book second : Workbook) → IsOpened options book bytes → IsOpened options second others
    → book ≡ second

-- ---- layouts

-- no place of a valid layout within the limit has a fault where its list is full
abbrev pub LaidSound : Type 0
LaidSound = (rules : Rules) (d : Layout) → IsLayout d → IsFull rules (list_of d)
    → length (lay d) ≤ rules.max_bytes → IsSound rules (lay d)

-- the whole reading of the list, with nothing left; or out of memory; or Io by the count
abbrev pub OpensAs : XlsOptions → List ListEntry → SourceState → SourceState → Result Workbook XlsError → Type 0
OpensAs options entries was now (Ok book) =
    (book.options ≡ options) × IsReading (rules_of options) entries (view_of book) × IsAtEnd now.left
OpensAs options entries was now (Err errors.Memory) = Unit {0}
OpensAs options entries was now (Err errors.Io) = Rose was.faults now.faults
OpensAs options entries was now (Err e) = ⊥

-- so is what opening answers over a source that has such a layout left
abbrev pub LaidOpens : Type 0
LaidOpens = (options : XlsOptions) (d : Layout) → IsLayout d → IsFull (rules_of options) (list_of d)
    → length (lay d) ≤ options.max_bytes
    → (was now : SourceState) → was.left ≡ Some (lay d) → (result : Result Workbook XlsError)
    → Opens options was now result → OpensAs options (list_of d) was now result

-- and a check of its bytes, whatever their number, has no refusal
abbrev pub LaidChecks : Type 0
LaidChecks = (rules : Rules) (d : Layout) → IsLayout d → IsFull rules (list_of d)
    → (result : Result (Unit {0}) XlsError)
    → Checks rules.force_codepage rules.max_cells (lay d) result → result ≡ Ok tt
