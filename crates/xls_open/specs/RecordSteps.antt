-- What a record of the globals that is read without memory stands for, for the proofs.
use Rattle.std.specs.Prelude.{◌≡◌, ℕ, List, true, Option, Some, None, unwrap_or, length, Result, Ok, Err}
use Rattle.xls_text.specs.declared.encoding.XlsEncoding.{XlsEncoding}
use Rattle.xls_stream.specs.Listing.{Shared, IsShared, is_plain_type}
use Rattle.xls_stream.specs.declared.types.TheConstants as types
use Rattle.xls_data.specs.Sheets.{SheetContent}
use Rattle.xls_record.specs.declared.error.XlsError.{XlsError}
use Rattle.xls_record.specs.declared.record.Record.{Record}
use Rattle.xls_record.specs.declared.version.Biff.{Biff}
use Rattle.xls_record.specs.Reading.{gives}
use Rattle.xls_biff.specs.Walking.{group_of}
use Rattle.xls_biff.specs.Records.BoundSheet.{bound_sheet_at}
use Rattle.xls_biff.specs.Records.ExternSheet.{refs_at}
use Rattle.xls_biff.specs.Records.Format.{format_code_at}
use Rattle.xls_formula.specs.Defined.{lbl_at}
use Rattle.xls_meaning.specs.GlobalsTable.{other_record, version_record, page_record, date_record, xf_record, references_record, name_record, strings_record, sheet_record, unless_refused, shared_texts, plain_record_at, GlobalsLine, fault_of}
use Rattle.xls_meaning.specs.GlobalsTable as table
use Rattle.xls_open.specs.Globals.{State}
use Rattle.xls_open.specs.Steps.{after}
use Rattle.xls_open.specs.declared.globals_record.GlobalsRecord.{GlobalsRecord}
use Rattle.xls_open.specs.declared.globals_record.GlobalsRecord.TheVariants as read

-- a record of this body, read so, is this line of the table, under a page and a version
abbrev pub Stands : XlsEncoding → Biff → List ℕ → GlobalsRecord → GlobalsLine → Type 0
Stands page version body read.Other line = line ≡ Ok other_record
Stands page version body (read.Version v) line = line ≡ Ok (version_record v)
Stands page version body (read.Page p) line = line ≡ Ok (page_record p)
Stands page version body (read.Date b) line = line ≡ Ok (date_record b)
Stands page version body (read.Format r) line = line ≡ unless_refused (format_code_at page version r.now.body.now)
Stands page version body (read.Xf n) line = line ≡ Ok (xf_record n)
Stands page version body (read.References r) line = line ≡ gives references_record (refs_at version r.now.body.now)
Stands page version body (read.Name r) line = line ≡ gives name_record (lbl_at page version r.now.body.now)
Stands page version body (read.Table r) line =
    (shared : Shared) × IsShared (group_of r.now) shared
    × (line ≡ gives strings_record (shared_texts (length r.now.body.now) shared))
Stands page version body (read.Sheet r) line =
    (body ≡ r.now.body.now)
    × (line ≡ gives (λ (q : ℕ × SheetContent). sheet_record q.1) (bound_sheet_at page version r.now.body.now))

-- what was read of a record is its line, which has no fault; or it is the line's fault
abbrev pub ReadsLine : XlsEncoding → Biff → List ℕ → GlobalsLine → Result GlobalsRecord XlsError → Type 0
ReadsLine page version body line (Ok g) = (fault_of line ≡ None) × Stands page version body g line
ReadsLine page version body line (Err e) = line ≡ Err e

-- what was read of a record, as one of a type, under a forced page and a version, is its line, whatever the
-- page
pub record ReadsAsType (forced : Option ℕ) (version : Biff) (typ : ℕ) (r : Record) (result : Result GlobalsRecord XlsError) : Type 0 where
  pub plain : is_plain_type typ ≡ true → (page : XlsEncoding)
      → ReadsLine page version r.body.now (plain_record_at forced page version typ r.body.now) result
  pub table : typ ≡ types.SST → (page : XlsEncoding) (shared : Shared) → IsShared (group_of r) shared
      → ReadsLine page version r.body.now (gives strings_record (shared_texts (length r.body.now) shared)) result
  pub sheet : typ ≡ types.BOUND_SHEET_8 → (page : XlsEncoding)
      → ReadsLine page version r.body.now (gives (λ (q : ℕ × SheetContent). sheet_record q.1) (bound_sheet_at page version r.body.now)) result

-- some line that it is has no fault
abbrev pub IsFaultlessRecord : State → GlobalsRecord → Type 0
IsFaultlessRecord s x = (body : List ℕ) × (line : GlobalsLine) × Stands s.page s.version body x line × (fault_of line ≡ None)

-- the version that it gives, and the version after it
abbrev pub version_of : GlobalsRecord → Option Biff
version_of (read.Version v) = Some v
version_of x = None

abbrev pub version_by : GlobalsRecord → Biff → Biff
version_by x version = unwrap_or (version_of x) version

-- what it gives was kept
abbrev pub IsTaken : State → GlobalsRecord → State → Type 0
IsTaken s x t = (body : List ℕ) (g : table.GlobalsRecord)
    → Stands s.page s.version body x (Ok g) → t ≡ after s body g
