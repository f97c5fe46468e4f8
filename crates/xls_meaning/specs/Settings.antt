-- What is in force at an entry of the list, and what all of the list gives: each is a function of the
-- record table's lines, by the last one that says it.
use Rattle.std.specs.Prelude.{ℕ, ℤ, pos, List, [], ◌∷◌, ◌++◌, Bool, false, ◌||◌, ◌==◌, if◌then◌else◌, length, min, map, slice_get, codes, Option, Some, None, unwrap_or}
use Rattle.std.specs.Result.{result_ok}
use Rattle.std.specs.Option.{option_or, option_map}
use Rattle.std.specs.List.{flat_map, range_with_len}
use Rattle.xls_text.specs.Pages.{page_of}
use Rattle.xls_text.specs.declared.encoding.XlsEncoding.{XlsEncoding}
use Rattle.xls_text.specs.declared.encoding.XlsEncoding.TheVariants.{Utf16}
use Rattle.xls_stream.specs.Listing.{Kept, ListEntry, plain_entry, table_entry, sheet_entry}
use Rattle.xls_dates.specs.Builtin.{class_of_code}
use Rattle.xls_data.specs.Sheets.{SheetContent}
use Rattle.xls_dates.specs.declared.formats.CellFormat.{CellFormat}
use Rattle.xls_record.specs.declared.version.Biff.{Biff}
use Rattle.xls_record.specs.declared.version.Biff.TheVariants.{Biff8}
use Rattle.xls_record.specs.Version.{is_biff8}
use Rattle.xls_biff.specs.Records.Format.{class_from}
use Rattle.xls_biff.specs.SheetTable.{CellContext}
use Rattle.xls_formula.specs.Context.{Context, numbered_sheet}
use Rattle.xls_formula.specs.Defined.{Located}
use Rattle.xls_meaning.specs.Order.{map_with_earlier, last_of, somes}
use Rattle.xls_meaning.specs.GlobalsTable.{NamedPlace, GlobalsLine, entry_record_at, version_from, page_from, date_from, code_from, xf_from, references_from, name_from, strings_from, sheet_from}
use Rattle.xls_meaning.specs.Rules.{Rules}

-- ---- page and version

-- what an entry gives whatever is in force: pages and versions hang on nothing else
abbrev pub said_by : Option ℕ → ListEntry → GlobalsLine
said_by forced e = entry_record_at forced Utf16 Biff8 e

-- the forced page, or else 1200
abbrev pub first_page : Option ℕ → XlsEncoding
first_page None = Utf16
first_page (Some n) = unwrap_or (result_ok (page_of n)) Utf16

-- the page that was given last, or else the first one
abbrev pub page_in : Rules → List ListEntry → XlsEncoding
page_in rules es =
    unwrap_or (last_of (map (λ (e : ListEntry). page_from (said_by rules.force_codepage e)) es)) (first_page rules.force_codepage)

-- the version that was given last, or else BIFF8
abbrev pub version_in : Rules → List ListEntry → Biff
version_in rules es =
    unwrap_or (last_of (map (λ (e : ListEntry). version_from (said_by rules.force_codepage e)) es)) Biff8

-- ---- the lines of the table

-- an entry, under the page and the version that are in force at it
abbrev pub line_in : Rules → List ListEntry → ListEntry → GlobalsLine
line_in rules before e =
    entry_record_at rules.force_codepage (page_in rules before) (version_in rules before) e

-- each entry in order
abbrev pub lines_in : Rules → List ListEntry → List GlobalsLine
lines_in rules es = map_with_earlier (line_in rules) [] es

-- ---- the date system

-- whether some DateMode is 1
abbrev pub sets_1904 : List GlobalsLine → Bool
sets_1904 [] = false
sets_1904 (line ∷ lines) = unwrap_or (date_from line) false || sets_1904 lines

abbrev pub is_1904_in : Rules → List ListEntry → Bool
is_1904_in rules es = sets_1904 (lines_in rules es)

-- ---- formats

-- the identifier and the code of each Format
abbrev pub codes_in : Rules → List ListEntry → List (ℕ × List ℕ)
codes_in rules es = somes (map code_from (lines_in rules es))

-- the identifier and the class of each of these formats that a class hangs on
abbrev pub classed : List (ℕ × List ℕ) → List (ℕ × CellFormat)
classed codes = somes (map class_from codes)

-- of each Format
abbrev pub formats_in : Rules → List ListEntry → List (ℕ × CellFormat)
formats_in rules es = classed (codes_in rules es)

-- the class of the last of these formats that has the identifier
abbrev pub last_class : List (ℕ × CellFormat) → ℕ → Option CellFormat
last_class [] ifmt = None
last_class (f ∷ fs) ifmt = option_or (last_class fs ifmt) (if f.0 == ifmt then Some f.1 else None)

-- or else the built-in one
abbrev pub class_in : List (ℕ × CellFormat) → ℕ → CellFormat
class_in formats ifmt = unwrap_or (last_class formats ifmt) (class_of_code ifmt)

-- the identifier of each XF
abbrev pub identifiers_in : Rules → List ListEntry → List ℕ
identifiers_in rules es = somes (map xf_from (lines_in rules es))

-- the class of each XF, by the formats of the whole list
abbrev pub classes_in : Rules → List ListEntry → List CellFormat
classes_in rules es = map (class_in (formats_in rules es)) (identifiers_in rules es)

-- ---- shared strings

-- the texts of the last string table
abbrev pub texts_in : Rules → List ListEntry → List (List ℕ)
texts_in rules es = unwrap_or (last_of (map strings_from (lines_in rules es))) []

-- ---- sheets

-- a sheet and its kept records
abbrev pub SheetRecords : Type 0
SheetRecords = SheetContent × List Kept

abbrev pub sheet_in : Rules → List ListEntry → ListEntry → Option SheetRecords
sheet_in rules before (plain_entry typ body) = None
sheet_in rules before (table_entry strings) = None
sheet_in rules before (sheet_entry state kind name kept) =
    option_map (λ (s : SheetContent). (s, kept))
    (sheet_from (line_in rules before (sheet_entry state kind name kept)))

-- the sheets in order
abbrev pub sheets_of : Rules → List ListEntry → List SheetRecords
sheets_of rules es = somes (map_with_earlier (sheet_in rules) [] es)

-- their names
abbrev pub sheet_names_of : List SheetRecords → List (List ℕ)
sheet_names_of = map (λ (q : SheetRecords). q.0.name)

-- ---- references

-- the first sheets of the references of all ExternSheets in order
abbrev pub extern_refs : Rules → List ListEntry → List ℤ
extern_refs rules es = flat_map (λ (rs : List ℤ). rs) (somes (map references_from (lines_in rules es)))

-- reference i is sheet i, of so many
abbrev pub own_refs : ℕ → List ℤ
own_refs count = map pos (range_with_len 0 count)

-- the references of a workbook of so many sheets; where the version is before BIFF8 and none is kept,
-- each sheet that an i16 can number has its own
abbrev pub known_refs : Biff → ℕ → List ℤ → List ℤ
known_refs version count [] = if is_biff8 version then [] else own_refs (min count 32768)
known_refs version count (r ∷ rs) = r ∷ rs

-- ---- defined names

-- each Lbl in order
abbrev pub lbls_in : Rules → List ListEntry → List NamedPlace
lbls_in rules es = somes (map name_from (lines_in rules es))

-- a text after the sheet of its reference and `!`, where it has a reference
abbrev pub placed_text : List (List ℕ) → List ℤ → Located → List ℕ
placed_text sheets refs (None, cs) = cs
placed_text sheets refs (Some index, cs) =
    numbered_sheet sheets (slice_get refs index) ++ (codes "!" ++ cs)

-- a name and its text
abbrev pub resolved_name : List (List ℕ) → List ℤ → NamedPlace → List ℕ × List ℕ
resolved_name sheets refs n = (n.0, placed_text sheets refs n.1)

-- ---- what the sheets are read under

-- what formulas may name, by these sheets, references and Lbls
abbrev pub context_by : Rules → XlsEncoding → Biff → List (List ℕ) → List ℤ → List NamedPlace → Context
context_by rules page version sheets refs names =
    record {
      sheets = sheets;
      names = map (resolved_name sheets refs) names;
      refs = refs;
      page = page;
      biff = version;
      functions = rules.functions;
      numbers = rules.numbers;
    }

-- by the lists at the end of the globals
abbrev pub context_of : Rules → List ListEntry → Context
context_of rules es =
    context_by rules (page_in rules es) (version_in rules es) (sheet_names_of (sheets_of rules es))
    (known_refs (version_in rules es) (length (sheets_of rules es)) (extern_refs rules es))
    (lbls_in rules es)

-- each defined name with its text
abbrev pub names_in : Rules → List ListEntry → List (List ℕ × List ℕ)
names_in rules es = (context_of rules es).names

-- what is in force for the cells of the sheets: the last ones of the whole list
abbrev pub cells_of : Rules → List ListEntry → CellContext
cells_of rules es =
    record {
      page = page_in rules es;
      version = version_in rules es;
      classes = classes_in rules es;
      strings = texts_in rules es;
      is_1904 = is_1904_in rules es;
    }

-- what is in force for the records of the sheets: for their cells, and for their formulas
pub record Settings : Type 0 where
  pub cells : CellContext
  pub formulas : Context

-- the last ones of the whole list
abbrev pub settings_of : Rules → List ListEntry → Settings
settings_of rules es = record { cells = cells_of rules es; formulas = context_of rules es }
