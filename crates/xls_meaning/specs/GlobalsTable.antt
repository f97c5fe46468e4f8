-- The record table of the globals: what a record of each type gives, or its first fault.
use Rattle.std.specs.Prelude.{ℕ, ℤ, List, [], ◌∷◌, Bool, map, length, Option, Some, None, Result, Ok, Err}
use Rattle.std.specs.Result.{result_map_both}
use Rattle.std.specs.Char.Utf16.{utf16_lossy_chars}
use Rattle.xls_text.specs.Pages.{page_of}
use Rattle.xls_text.specs.declared.encoding.XlsEncoding.{XlsEncoding}
use Rattle.xls_stream.specs.Listing.{Shared, no_table, table_of, table_without, ListEntry, plain_entry, table_entry, sheet_entry, Item, plain_item, table_item, sheet_item}
use Rattle.xls_stream.specs.declared.part.Part.TheVariants as parts
use Rattle.xls_stream.specs.declared.types.TheConstants as types
use Rattle.xls_data.specs.Sheets.{SheetContent}
use Rattle.xls_record.specs.declared.error.XlsError.{XlsError}
use Rattle.xls_record.specs.declared.error.XlsError.TheVariants.{Len, Cfb}
use Rattle.xls_record.specs.declared.version.Biff.{Biff}
use Rattle.xls_biff.specs.declared.records.bof.Bof.{Bof}
use Rattle.xls_biff.specs.Lines.{line_of}
use Rattle.xls_biff.specs.Records.Bof.{bof_at}
use Rattle.xls_biff.specs.Records.Xf.{xf_at}
use Rattle.xls_biff.specs.Records.ExternSheet.{refs_at}
use Rattle.xls_biff.specs.Records.Format.{format_code_at}
use Rattle.xls_strings.specs.Sst.{error_of}
use Rattle.xls_formula.specs.Defined.{Located, lbl_at}
use Rattle.xls_record.specs.Reading.{gives}
use Rattle.xls_biff.specs.Records.FilePass.{file_pass_at}
use Rattle.xls_biff.specs.Records.CodePage.{code_page_at}
use Rattle.xls_biff.specs.Records.DateMode.{date_mode_at}
use Rattle.xls_biff.specs.Records.BoundSheet.{sheet_by, bound_sheet_at}

-- Lbl ([MS-XLS] 2.4.150): the name and what it names
abbrev pub NamedPlace : Type 0
NamedPlace = List ℕ × Located

-- what a record of the globals gives
pub data GlobalsRecord : Type 0 where
  other_record : GlobalsRecord
  version_record : (version : Biff) → GlobalsRecord
  page_record : (page : XlsEncoding) → GlobalsRecord
  date_record : (is_1904 : Bool) → GlobalsRecord
  format_record : (ifmt : ℕ) (code : List ℕ) → GlobalsRecord
  xf_record : (ifmt : ℕ) → GlobalsRecord
  references_record : (firsts : List ℤ) → GlobalsRecord
  name_record : (name : NamedPlace) → GlobalsRecord
  strings_record : (texts : List (List ℕ)) → GlobalsRecord
  sheet_record : (sheet : SheetContent) → GlobalsRecord

-- ---- the lines that say more than their record's reader

-- under a forced page a CodePage ([MS-XLS] 2.4.52) gives nothing and has no fault
abbrev pub unless_forced : Option ℕ → Result GlobalsRecord XlsError → Result GlobalsRecord XlsError
unless_forced None line = line
unless_forced (Some n) line = Ok other_record

-- a Format ([MS-XLS] 2.4.126) that is too short for its code is passed over
abbrev pub unless_refused : Result (ℕ × List ℕ) XlsError → Result GlobalsRecord XlsError
unless_refused (Ok f) = Ok (format_record f.0 f.1)
unless_refused (Err e) = Ok other_record

-- SST ([MS-XLS] 2.4.265), of a body of so many bytes: the texts of its strings
abbrev pub shared_texts : ℕ → Shared → Result (List (List ℕ)) XlsError
shared_texts len no_table = Err (Len 8 len parts.Sst)
shared_texts len (table_of strings) = Ok (map utf16_lossy_chars strings)
shared_texts len (table_without missing) = Err (error_of missing)

-- ---- the table

-- how the records of a type read under a forced page, the page and the version: what each body gives, or
-- its first fault
abbrev pub PlainLine : Type 0
PlainLine = Option ℕ → XlsEncoding → Biff → List ℕ → Result GlobalsRecord XlsError

-- they give nothing, whatever their bodies
abbrev pub other_line : PlainLine
other_line forced page version body = Ok other_record

-- one line a type, without SST and BoundSheet8, which have items of their own
abbrev pub globals_table : List (ℕ × PlainLine)
globals_table =
    (types.BOF, λ forced page version body. gives (λ (b : Bof). version_record b.biff) (bof_at body))
    ∷ (types.FILE_PASS, λ forced page version body. gives (λ (u : Unit {0}). other_record) (file_pass_at body))
    ∷ (types.CODE_PAGE, λ forced page version body. unless_forced forced (gives page_record (code_page_at body)))
    ∷ (types.DATE_MODE, λ forced page version body. gives date_record (date_mode_at body))
    ∷ (types.FORMAT, λ forced page version body. unless_refused (format_code_at page version body))
    ∷ (types.XF, λ forced page version body. gives xf_record (xf_at body))
    ∷ (types.LBL, λ forced page version body. gives name_record (lbl_at page version body))
    ∷ (types.EXTERN_SHEET, λ forced page version body. gives references_record (refs_at version body))
    ∷ []

-- a record that is neither SST nor BoundSheet8, under a forced page, the page and the version
abbrev pub plain_record_at : Option ℕ → XlsEncoding → Biff → ℕ → List ℕ → Result GlobalsRecord XlsError
plain_record_at forced page version typ body = line_of other_line globals_table typ forced page version body

-- a record as it stands in the globals
abbrev pub item_record_at : Option ℕ → XlsEncoding → Biff → Item → Result GlobalsRecord XlsError
item_record_at forced page version (plain_item typ body) = plain_record_at forced page version typ body
item_record_at forced page version (table_item body shared) =
    gives strings_record (shared_texts (length body) shared)
item_record_at forced page version (sheet_item body kept cut) =
    gives (λ (q : ℕ × SheetContent). sheet_record q.1) (bound_sheet_at page version body)

-- an entry of the list that they carry: a string table is whole, and a sheet has no offset
abbrev pub entry_record_at : Option ℕ → XlsEncoding → Biff → ListEntry → Result GlobalsRecord XlsError
entry_record_at forced page version (plain_entry typ body) = plain_record_at forced page version typ body
entry_record_at forced page version (table_entry strings) =
    Ok (strings_record (map utf16_lossy_chars strings))
entry_record_at forced page version (sheet_entry state kind name kept) =
    gives sheet_record (sheet_by page version state kind name)

-- ---- its first fault

-- what a definition refuses
abbrev pub fault_of : {X : Type 0} → Result X XlsError → Option XlsError
fault_of (Ok x) = None
fault_of (Err e) = Some e

-- the number of a forced page that isn't kept
abbrev pub forced_fault : Option ℕ → Option XlsError
forced_fault None = None
forced_fault (Some n) = fault_of (result_map_both (λ page. page) (λ e. Cfb e) (page_of n))

-- ---- what it gives, by kind

abbrev pub GlobalsLine : Type 0
GlobalsLine = Result GlobalsRecord XlsError

abbrev pub version_from : GlobalsLine → Option Biff
version_from (Ok (version_record version)) = Some version
version_from line = None

abbrev pub page_from : GlobalsLine → Option XlsEncoding
page_from (Ok (page_record page)) = Some page
page_from line = None

abbrev pub date_from : GlobalsLine → Option Bool
date_from (Ok (date_record is_1904)) = Some is_1904
date_from line = None

abbrev pub code_from : GlobalsLine → Option (ℕ × List ℕ)
code_from (Ok (format_record ifmt code)) = Some (ifmt, code)
code_from line = None

abbrev pub xf_from : GlobalsLine → Option ℕ
xf_from (Ok (xf_record ifmt)) = Some ifmt
xf_from line = None

abbrev pub references_from : GlobalsLine → Option (List ℤ)
references_from (Ok (references_record firsts)) = Some firsts
references_from line = None

abbrev pub name_from : GlobalsLine → Option NamedPlace
name_from (Ok (name_record name)) = Some name
name_from line = None

abbrev pub strings_from : GlobalsLine → Option (List (List ℕ))
strings_from (Ok (strings_record texts)) = Some texts
strings_from line = None

abbrev pub sheet_from : GlobalsLine → Option SheetContent
sheet_from (Ok (sheet_record sheet)) = Some sheet
sheet_from line = None
