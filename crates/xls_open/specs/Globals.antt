-- What reading the globals of a stream answers, and what formulas may name.
use Rattle.std.specs.Prelude.{◌≡◌, ℕ, ℤ, List, [], Bool, length, map, Option, Some, None, Result, Ok, Err}
use Rattle.xls_text.specs.declared.encoding.XlsEncoding.{XlsEncoding}
use Rattle.xls_stream.specs.Listing.{Item, entry_of, Holds}
use Rattle.xls_stream.specs.declared.part.Part.{Part}
use Rattle.xls_data.specs.Sheets.{SheetContent, sheet_content}
use Rattle.xls_record.specs.declared.error.XlsError.{XlsError}
use Rattle.xls_record.specs.declared.error.XlsError.TheVariants as errors
use Rattle.xls_record.specs.declared.version.Biff.{Biff}
use Rattle.xls_meaning.specs.Order.{map_with_earlier, first_of}
use Rattle.xls_meaning.specs.Settings.{page_in, version_in, is_1904_in, codes_in, identifiers_in, texts_in, extern_refs, lbls_in, known_refs, resolved_name}
use Rattle.xls_meaning.specs.GlobalsTable.{NamedPlace}
use Rattle.xls_open.specs.Workbook.{name_texts}
use Rattle.xls_meaning.specs.Faults.{item_fault, globals_places}
use Rattle.xls_open.specs.declared.listed.Listed.{Listed}
use Rattle.xls_open.specs.declared.names.Naming.{Naming}
use Rattle.xls_meaning.specs.Rules.{Rules}
use Rattle.xls_meaning.specs.Held.{OpenedSheet, opened_of}

-- the sheets that the globals list, each with its offset
abbrev pub Sheets : Type 0
Sheets = List (ℕ × SheetContent)

abbrev pub listed_of : Listed → ℕ × SheetContent
listed_of l = (l.offset, sheet_content l.sheet)

-- what the records so far give
pub record State : Type 0 where
  pub page : XlsEncoding
  pub version : Biff
  pub is_1904 : Bool
  pub codes : List (ℕ × List ℕ)
  pub identifiers : List ℕ
  pub strings : List (List ℕ)
  pub refs : List ℤ
  pub names : List NamedPlace
  pub sheets : Sheets

abbrev pub pair_of : OpenedSheet → ℕ × SheetContent
pair_of o = (o.offset, o.head)

-- the sheets listed by these items
abbrev pub sheets_at : Rules → List Item → Sheets
sheets_at rules items = map pair_of (opened_of rules items)

-- the state is what these items give
pub record IsState (rules : Rules) (items : List Item) (s : State) : Type 0 where
  pub page : s.page ≡ page_in rules (map entry_of items)
  pub version : s.version ≡ version_in rules (map entry_of items)
  pub is_1904 : s.is_1904 ≡ is_1904_in rules (map entry_of items)
  pub codes : s.codes ≡ codes_in rules (map entry_of items)
  pub identifiers : s.identifiers ≡ identifiers_in rules (map entry_of items)
  pub strings : s.strings ≡ texts_in rules (map entry_of items)
  pub refs : s.refs ≡ extern_refs rules (map entry_of items)
  pub names : s.names ≡ lbls_in rules (map entry_of items)
  pub sheets : s.sheets ≡ sheets_at rules items

pub record AreGlobals (rules : Rules) (bytes : List ℕ) (s : State) : Type 0 where
  pub items : List Item
  pub holds : Holds bytes items None
  pub faultless : first_of (map_with_earlier (item_fault rules) [] items) ≡ None
  pub state : IsState rules items s

abbrev pub GlobalsFault : Rules → List ℕ → XlsError → Type 0
GlobalsFault rules bytes e =
    (items : List Item) × (cut : Option Part) × Holds bytes items cut
    × (first_of (globals_places rules items cut) ≡ Some e)

abbrev pub ReadsGlobals : Rules → List ℕ → Result State XlsError → Type 0
ReadsGlobals rules bytes (Ok s) = AreGlobals rules bytes s
ReadsGlobals rules bytes (Err errors.Memory) = Unit {0}
ReadsGlobals rules bytes (Err e) = GlobalsFault rules bytes e

abbrev pub names_listed : Sheets → List (List ℕ)
names_listed = map (λ (q : ℕ × SheetContent). q.1.name)

-- by a version, sheets, the references of all ExternSheets, and Lbls
pub record IsNaming (version : Biff) (listed : Sheets) (refs : List ℤ) (lbls : List NamedPlace) (n : Naming) : Type 0 where
  pub sheets : n.sheets ≡ names_listed listed
  pub known : n.refs ≡ known_refs version (length listed) refs
  pub names : n.names ≡ map (resolved_name (names_listed listed) (known_refs version (length listed) refs)) lbls
  pub reported : map name_texts n.reported.items ≡ n.names
