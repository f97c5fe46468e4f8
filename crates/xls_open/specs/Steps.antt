-- Steps of opening, for the proofs.
use Rattle.std.specs.Prelude.{◌≡◌, ℕ, List, [], ◌∷◌, ◌++◌, ◌-◌, ◌||◌, Bool, false, if◌then◌else◌, nat_lt, Option, Some, None, unwrap_or, Result, Ok, Err}
use Rattle.std.specs.Option.{option_map}
use Rattle.xls_text.specs.declared.encoding.XlsEncoding.{XlsEncoding}
use Rattle.xls_stream.specs.Listing as listing
use Rattle.xls_stream.specs.Listing.{offset_at, Kept, Item, plain_item, table_item, sheet_item, IsSheetPart, Carries}
use Rattle.xls_stream.specs.Walks.{IsBytes}
use Rattle.xls_stream.specs.declared.part.Part.{Part}
use Rattle.xls_data.specs.Sheets.{SheetContent}
use Rattle.xls_record.specs.declared.error.XlsError.{XlsError}
use Rattle.xls_record.specs.declared.error.XlsError.TheVariants as errors
use Rattle.xls_record.specs.declared.version.Biff.TheVariants.{Biff8}
use Rattle.xls_meaning.specs.Order.{map_with_earlier, first_of}
use Rattle.xls_meaning.specs.Settings.{Settings, SheetRecords}
use Rattle.xls_meaning.specs.GlobalsTable.{GlobalsRecord, version_from, page_from, date_from, code_from, xf_from, references_from, name_from, strings_from, sheet_from}
use Rattle.xls_meaning.specs.Reading.{SheetView, BookView, IsContent, IsReading}
use Rattle.xls_meaning.specs.Faults.{kept_fault, FirstAfter, IsFull}
use Rattle.xls_meaning.specs.Rules.{Rules}
use Rattle.xls_open.specs.Globals.{Sheets, State}

-- ---- steps

-- ---- the globals

-- before the first record, under this page
abbrev pub first_state : XlsEncoding → State
first_state page = record {
  page = page;
  version = Biff8;
  is_1904 = false;
  codes = [];
  identifiers = [];
  strings = [];
  refs = [];
  names = [];
  sheets = [];
}

-- a list with one more at its end, if there is one
abbrev pub with_one : {X : Type 0} → List X → Option X → List X
with_one xs None = xs
with_one xs (Some x) = xs ++ x ∷ []

abbrev pub with_all : {X : Type 0} → List X → Option (List X) → List X
with_all xs None = xs
with_all xs (Some ys) = xs ++ ys

abbrev pub or_also : Bool → Option Bool → Bool
or_also b None = b
or_also b (Some c) = b || c

-- a sheet at the offset of its BoundSheet8, which has this body
abbrev pub placed : List ℕ → SheetContent → ℕ × SheetContent
placed body sheet = (offset_at body, sheet)

-- after one more record of this body, by what the table says that it gives
abbrev pub after : State → List ℕ → GlobalsRecord → State
after s body g = record {
  page = unwrap_or (page_from (Ok g)) s.page;
  version = unwrap_or (version_from (Ok g)) s.version;
  is_1904 = or_also s.is_1904 (date_from (Ok g));
  codes = with_one s.codes (code_from (Ok g));
  identifiers = with_one s.identifiers (xf_from (Ok g));
  strings = unwrap_or (strings_from (Ok g)) s.strings;
  refs = with_all s.refs (references_from (Ok g));
  names = with_one s.names (name_from (Ok g));
  sheets = with_one s.sheets (option_map (placed body) (sheet_from (Ok g)));
}

abbrev pub body_of : Item → List ℕ
body_of (plain_item typ body) = body
body_of (table_item body shared) = body
body_of (sheet_item body kept cut) = body

-- ---- the sheets of the globals

-- ---- what formulas may name

-- ---- a sheet part

-- how many more cells there may be, of these that there may be, after a record of this weight
abbrev pub weight_left : ℕ → ℕ → ℕ → Result ℕ XlsError
weight_left limit room weight =
    if nat_lt room weight then Err (errors.TooManyCells limit) else Ok (room - weight)

-- the records of a part that isn't cut have no fault, and this is their content
pub record IsRead (Stands : List Kept → Option Part
    → Type 0) (rules : Rules) (s : Settings) (view : SheetView) : Type 0 where
  pub kept : List Kept
  pub stands : Stands kept None
  pub faultless : first_of (map_with_earlier (kept_fault rules s.cells) [] kept) ≡ None
  pub content : IsContent s kept view

-- ---- the sheets

-- each of these sheets was read so
abbrev pub AreContents : Rules → Settings → List ℕ → Sheets → List SheetView → Type 0
AreContents rules s stream [] [] = Unit {0}
AreContents rules s stream (q ∷ qs) (v ∷ vs) =
    IsRead (IsSheetPart stream q.0) rules s v × AreContents rules s stream qs vs
AreContents rules s stream qs vs = ⊥

-- these sheets with these contents are those of the list
abbrev pub AreSheets : Settings → List SheetContent → List SheetView → List SheetRecords → Type 0
AreSheets s [] [] [] = Unit {0}
AreSheets s (t ∷ ts) (v ∷ vs) (q ∷ qs) =
    (t ≡ q.0) × IsContent s q.1 v × AreSheets s ts vs qs
AreSheets s ts vs qs = ⊥

-- ---- the workbook of a stream, its byte limit and the forced page apart

pub record IsStreamOpened (rules : Rules) (bytes : List ℕ) (book : BookView) : Type 0 where
  pub entries : List listing.ListEntry
  pub carries : Carries bytes entries
  pub full : IsFull rules entries
  pub reading : IsReading rules entries book
  pub are_bytes : IsBytes bytes

abbrev pub StreamFault : Rules → List ℕ → XlsError → Type 0
StreamFault rules bytes e = FirstAfter None rules bytes e
