-- Which text a writer is to write, by the bytes or the workbook that it is of.
use Rattle.std.specs.Prelude.{◌≡◌, ◌⊎◌, ℕ, String, List, Some, None}
use Rattle.std.specs.Global.{Global}
use Rattle.std.specs.Str.{chars}
use Rattle.std.specs.String.{string_bytes}
use Rattle.xls_record.specs.declared.error.XlsError.{XlsError}
use Rattle.xls_record.specs.declared.error.XlsError.TheVariants.{WorksheetNotFound}
use Rattle.xls_meaning.specs.Reading.{SheetView, BookView, displayed_of}
use Rattle.xls_csv.specs.Dense.{sheet_csv}
use Rattle.xls_stream.specs.Listing.{ListEntry, Carries}
use Rattle.xls_report.specs.Remaking.{IsWrittenOf, IsUnwrittenOf}
use Rattle.xls_meaning.specs.Faults.{FirstFault, IsSound}
use Rattle.xls_open.specs.Opening.{default_rules}
use Rattle.xls_report.specs.Faults.{sound_line, fault_line}

-- the line of bytes of which no place has a fault
abbrev pub IsSoundLine : List ℕ → List ℕ → Type 0
IsSoundLine bytes text = IsSound default_rules bytes × (text ≡ sound_line)

-- the line of the first fault of the bytes
abbrev pub IsFirstLine : List ℕ → List ℕ → Type 0
IsFirstLine bytes text =
    (e : XlsError) × FirstFault default_rules bytes e × (text ≡ fault_line e)

-- no place of the bytes has a fault, and this text is of each list that they carry, of which there is one
pub record IsOfList (IsOf : List ListEntry → List ℕ → Type 0) (bytes text : List ℕ) : Type 0 where
  pub sound : IsSound default_rules bytes
  pub list : List ListEntry
  pub carries : Carries bytes list
  pub every : (other : List ListEntry) → Carries bytes other → IsOf other text

-- the canonical bytes of the list that the bytes carry
abbrev pub IsRemadeText : List ℕ → List ℕ → Type 0
IsRemadeText bytes text = IsOfList IsWrittenOf bytes text

-- the line of the first fault, or of a list whose canonical bytes are too many
abbrev pub IsUnremadeLine : List ℕ → List ℕ → Type 0
IsUnremadeLine bytes text = IsFirstLine bytes text ⊎ IsOfList IsUnwrittenOf bytes text

-- the CSV of the last sheet of this name in what a workbook shows
abbrev pub IsCsvOf : List ℕ → BookView → List ℕ → Type 0
IsCsvOf name book text =
    (view : SheetView) × (displayed_of book (chars name) ≡ Some view) × (text ≡ sheet_csv view.cells)

-- the line of a name that no sheet has
abbrev pub IsMissingLine : List ℕ → List ℕ → Type 0
IsMissingLine name text =
    (s : String Global) × (string_bytes s ≡ name) × (text ≡ fault_line (WorksheetNotFound s))

-- the same where no sheet of a workbook has it
abbrev pub IsMissingOf : List ℕ → BookView → List ℕ → Type 0
IsMissingOf name book text = (displayed_of book (chars name) ≡ None) × IsMissingLine name text
