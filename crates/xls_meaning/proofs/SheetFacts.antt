-- Known values of what the kept records of a sheet give, of their weights, of the order of places, and of
-- sheets that have one name.
use Rattle.std.proofs.Common.{◌≡◌, ℕ, pos, true, false, Bool, if◌then◌else◌, List, [], ◌∷◌, ◌++◌, length, map, refl, sym, ap, ◌<◌, lit<, arith, Option, None, Some, codes}
use Rattle.std.specs.Prelude.{replicate, ◌==◌, ◌&&◌}
use Rattle.std.specs.Fmt.{digits}
use Rattle.std.specs.Str.{chars}
use Rattle.std.specs.Option.{option_or}
use Rattle.xls_bytes.specs.Columns.{word_of, column_name}
use Rattle.xls_text.specs.declared.encoding.XlsEncoding.TheVariants.{Windows1252}
use Rattle.xls_stream.specs.Listing.{Kept, Item, plain_item, sheet_item, ListEntry, sheet_entry}
use Rattle.xls_stream.specs.declared.part.Part.TheVariants as parts
use Rattle.xls_data.specs.Content.{Content, int, float, text, truth, date, failure}
use Rattle.xls_dates.specs.declared.numbers.Number.TheVariants.{Bits, Whole}
use Rattle.xls_data.specs.declared.errors.CellErrorType.TheVariants as failures
use Rattle.xls_dates.specs.declared.dates.ExcelDateTimeType.TheVariants as kinds
use Rattle.xls_dates.specs.declared.formats.CellFormat.TheVariants.{Other, DateTime}
use Rattle.xls_data.specs.declared.sheets.SheetType.TheVariants.{WorkSheet}
use Rattle.xls_data.specs.declared.sheets.SheetVisible.TheVariants.{Visible}
use Rattle.xls_data.specs.Sheets.{SheetContent}
use Rattle.xls_record.specs.declared.error.XlsError.TheVariants as errors
use Rattle.xls_record.specs.declared.version.Biff.TheVariants.{Biff8}
use Rattle.xls_biff.specs.Records.Rk.{rk_content}
use Rattle.xls_biff.specs.SheetTable.{CellContext}
use Rattle.xls_formula.specs.declared.numbers.NumberStyle.TheVariants.{Bits}
use Rattle.xls_meaning.specs.Order.{map_with_earlier}
use Rattle.xls_meaning.specs.Settings.{Settings, SheetRecords, settings_of, sheets_of}
use Rattle.xls_meaning.specs.Reading.{SheetView, BookView, IsContent, IsReading, kept_named, values_of, formulas_of, merges_of, displayed_of}
use Rattle.xls_meaning.specs.Faults.{weight_in, kept_fault, places}
use Rattle.xls_meaning.specs.Rules.{Rules}

-- ---- what the records of a sheet give

abbrev cells : CellContext
cells = record { page = Windows1252; version = Biff8; classes = DateTime ∷ Other ∷ []; strings = codes "a" ∷ codes "b" ∷ []; is_1904 = true }

abbrev settings : Settings
settings = record {
  cells = cells;
  formulas = record {
    sheets = codes "A" ∷ [];
    names = (codes "N", codes "A!$B$2") ∷ [];
    refs = pos 0 ∷ [];
    page = Windows1252;
    biff = Biff8;
    functions = (codes "PI", 0) ∷ [];
    numbers = Bits;
  };
}

abbrev kept : ℕ → List ℕ → Kept
kept typ body = record { typ = typ; body = body }

-- a row, a column and an XF index
abbrev cell : ℕ → ℕ → ℕ → List ℕ
cell row column xf = row ∷ 0x00 ∷ column ∷ 0x00 ∷ xf ∷ 0x00 ∷ []

-- the doubles 1, 2 and 3
abbrev one : List ℕ
one = replicate 6 0x00 ++ 0xF0 ∷ 0x3F ∷ []

abbrev two : List ℕ
two = replicate 7 0x00 ++ 0x40 ∷ []

abbrev three : List ℕ
three = replicate 6 0x00 ++ 0x08 ∷ 0x40 ∷ []

abbrev number : List ℕ → List ℕ → Kept
number at double = kept 0x0203 (at ++ double)

-- of 13 bytes
abbrev short_number : Kept
short_number = kept 0x0203 (replicate 13 0x00)

abbrev formula : List ℕ → List ℕ → List ℕ → Kept
formula at value rgce = kept 0x0006 (at ++ (value ++ (replicate 6 0x00 ++ rgce)))

-- values that a String tells, and true
abbrev reported : List ℕ
reported = replicate 6 0x00 ++ 0xFF ∷ 0xFF ∷ []

abbrev yes : List ℕ
yes = 0x01 ∷ 0x00 ∷ 0x01 ∷ 0x00 ∷ 0x00 ∷ 0x00 ∷ 0xFF ∷ 0xFF ∷ []

-- merged rows 0 to 1 and columns 2 to 3, and two regions of one column
abbrev one_region : Kept
one_region = kept 0x00E5 (0x01 ∷ 0x00 ∷ 0x00 ∷ 0x00 ∷ 0x01 ∷ 0x00 ∷ 0x02 ∷ 0x00 ∷ 0x03 ∷ 0x00 ∷ [])

abbrev two_regions : Kept
two_regions = kept 0x00E5 (0x02 ∷ 0x00 ∷ 0x04 ∷ 0x00 ∷ 0x05 ∷ 0x00 ∷ 0x06 ∷ 0x00 ∷ 0x06 ∷ 0x00 ∷ 0x07 ∷ 0x00 ∷ 0x08 ∷ 0x00 ∷ 0x09 ∷ 0x00 ∷ 0x09 ∷ 0x00 ∷ [])

-- Dimensions, a String before any Formula, a Number of a date, one that is too short, a Formula whose text
-- comes later, MergeCells and that text
abbrev first_records : List Kept
first_records =
    kept 0x0200 (replicate 14 0x00) ∷ kept 0x0207 (0x01 ∷ 0x00 ∷ 0x00 ∷ codes "x")
    ∷ number (cell 0x02 0x01 0x00) three ∷ short_number
    ∷ formula (cell 0x03 0x01 0x00) reported (0x05 ∷ 0x00 ∷ 0x23 ∷ 0x01 ∷ 0x00 ∷ 0x00 ∷ 0x00 ∷ []) ∷ one_region
    ∷ kept 0x0207 (0x02 ∷ 0x00 ∷ 0x00 ∷ codes "ab") ∷ []

-- LabelSst, one of a text that isn't there, a Formula of a cell on a sheet, one without tokens, MulRk, an RK
-- of a date, BoolErr, Label, RString, MergeCells, a record that isn't read, and the first position again
abbrev last_records : List Kept
last_records =
    kept 0x00FD (cell 0x04 0x00 0x00 ++ 0x01 ∷ 0x00 ∷ 0x00 ∷ 0x00 ∷ []) ∷ kept 0x00FD (cell 0x04 0x01 0x00 ++ 0x02 ∷ 0x00 ∷ 0x00 ∷ 0x00 ∷ [])
    ∷ formula (cell 0x05 0x01 0x01) two (0x07 ∷ 0x00 ∷ 0x3A ∷ 0x00 ∷ 0x00 ∷ 0x01 ∷ 0x00 ∷ 0x02 ∷ 0xC0 ∷ [])
    ∷ formula (cell 0x05 0x02 0x01) yes []
    ∷ kept 0x00BD (0x06 ∷ 0x00 ∷ 0x00 ∷ 0x00 ∷ 0x01 ∷ 0x00 ∷ 0x0A ∷ 0x00 ∷ 0x00 ∷ 0x00 ∷ 0x01 ∷ 0x00 ∷ 0x06 ∷ 0x00 ∷ 0x00 ∷ 0x00 ∷ 0x01 ∷ 0x00 ∷ [])
    ∷ kept 0x027E (cell 0x07 0x00 0x00 ++ 0x06 ∷ 0x00 ∷ 0x00 ∷ 0x00 ∷ []) ∷ kept 0x0205 (cell 0x08 0x00 0x00 ++ 0x07 ∷ 0x01 ∷ [])
    ∷ kept 0x0204 (cell 0x08 0x01 0x00 ++ 0x01 ∷ 0x00 ∷ 0x00 ∷ codes "c") ∷ kept 0x00D6 (cell 0x08 0x02 0x00 ++ 0x01 ∷ 0x00 ∷ 0x00 ∷ codes "d")
    ∷ two_regions ∷ kept 0x0208 (replicate 16 0x01) ∷ number (cell 0x02 0x01 0x01) two ∷ []

-- the cells in order, each time that one is given
pub values : values_of settings (first_records ++ last_records)
    ≡ ((0, 0), text (codes "x")) ∷ ((2, 1), date (record { number = Bits 0x4008_0000_0000_0000; kind = kinds.DateTime; is_1904 = true }))
    ∷ ((3, 1), text (codes "ab")) ∷ ((4, 0), text (codes "b")) ∷ ((5, 1), float (Bits 0x4000_0000_0000_0000)) ∷ ((5, 2), truth true)
    ∷ ((6, 0), int (pos 2)) ∷ ((6, 1), int (pos 1)) ∷ ((7, 0), date (record { number = Whole (pos 1); kind = kinds.DateTime; is_1904 = true }))
    ∷ ((8, 0), failure failures.Div0) ∷ ((8, 1), text (codes "c")) ∷ ((8, 2), text (codes "d")) ∷ ((2, 1), float (Bits 0x4000_0000_0000_0000)) ∷ []
unfolding rk_content digits column_name word_of
values = refl

-- the texts of the formulas, or in UTF-8 why one has none
pub formulas : formulas_of settings (first_records ++ last_records)
    ≡ ((3, 1), codes "N") ∷ ((5, 1), codes "A!C2")
    ∷ ((5, 2), chars (codes "Unrecognised formula for cell (5, 2): Invalid rgce length, expected at least 2, found 0")) ∷ []
unfolding rk_content digits column_name word_of
formulas = refl

-- the regions of both records
pub merges : merges_of settings (first_records ++ last_records)
    ≡ record { start = (0, 2); end = (1, 3) } ∷ record { start = (4, 6); end = (5, 6) } ∷ record { start = (7, 9); end = (8, 9) } ∷ []
unfolding rk_content digits column_name word_of
merges = refl

-- ---- weights

-- each record by itself: one that is too short, regions and Dimensions weigh nothing
pub weights : map (λ k. weight_in cells (k ∷ [])) (first_records ++ last_records)
    ≡ 0 ∷ 1 ∷ 1 ∷ 0 ∷ 1 ∷ 0 ∷ 1 ∷ 1 ∷ 1 ∷ 1 ∷ 1 ∷ 2 ∷ 1 ∷ 1 ∷ 1 ∷ 1 ∷ 0 ∷ 0 ∷ 1 ∷ []
unfolding rk_content
weights = refl

abbrev limit : ℕ → Rules
limit max_cells = record { force_codepage = None; max_bytes = 0x1000; max_cells = max_cells; functions = []; numbers = Bits }

-- where two cells are the limit: the third one passes it, and so does each record after it, but one with a
-- fault of its own has that
pub passed : map_with_earlier (kept_fault (limit 2) cells) [] (number (cell 0x00 0x00 0x01) one ∷ short_number ∷ one_region ∷ number (cell 0x00 0x00 0x01) one ∷ number (cell 0x00 0x00 0x01) one ∷ one_region ∷ short_number ∷ [])
    ≡ None ∷ Some (errors.Len 14 13 parts.Number) ∷ None ∷ None ∷ Some (errors.TooManyCells 2) ∷ Some (errors.TooManyCells 2) ∷ Some (errors.Len 14 13 parts.Number) ∷ []
passed = refl

-- ---- places

-- a BoundSheet8 of the name `A`
abbrev sheet_a : List ℕ
sheet_a = 0x00 ∷ 0x01 ∷ 0x00 ∷ 0x00 ∷ 0x00 ∷ 0x00 ∷ 0x01 ∷ 0x00 ∷ 0x41 ∷ []

-- the records of the globals and how these are cut, and then for each sheet its records and how its part is
pub ordered : places (limit 1) (plain_item 0x0022 (0x00 ∷ 0x00 ∷ []) ∷ sheet_item sheet_a (short_number ∷ one_region ∷ []) (Some parts.RecordHeader) ∷ plain_item 0x0022 [] ∷ sheet_item sheet_a (number (cell 0x00 0x00 0x00) one ∷ []) None ∷ []) (Some parts.RecordLength)
    ≡ None ∷ None ∷ Some (errors.Len 2 0 parts.DateMode) ∷ None ∷ Some (errors.EoStream parts.RecordLength)
    ∷ Some (errors.Len 14 13 parts.Number) ∷ None ∷ Some (errors.EoStream parts.RecordHeader) ∷ None ∷ None ∷ []
ordered = refl

-- a Label whose count stands alone is whole before BIFF8: what counts is the BOF that stands last in the globals
abbrev label : Kept
label = kept 0x0204 (cell 0x00 0x00 0x00 ++ 0x01 ∷ 0x00 ∷ [])

abbrev bof : ℕ → Item
bof version = plain_item 0x0809 (0x00 ∷ version ∷ [])

pub after_all : map (λ items. places (limit 1) items None) ((sheet_item sheet_a (label ∷ []) None ∷ bof 0x05 ∷ []) ∷ (bof 0x05 ∷ sheet_item sheet_a (label ∷ []) None ∷ bof 0x06 ∷ []) ∷ [])
    ≡ (None ∷ None ∷ None ∷ None ∷ None ∷ []) ∷ (None ∷ None ∷ None ∷ None ∷ Some (errors.Len 3 2 parts.Text) ∷ None ∷ []) ∷ []
after_all = refl

-- ---- sheets of one name

abbrev content : List ℕ → SheetContent
content name = record { name = name; typ = WorkSheet; visible = Visible }

abbrev listed : List SheetRecords
listed = (content (codes "A"), one_region ∷ []) ∷ (content (codes "B"), []) ∷ (content (codes "A"), label ∷ []) ∷ []

-- the last sheet `A`, `B`, and none of the name `a`
pub last_kept : map (kept_named listed) (codes "A" ∷ codes "B" ∷ codes "a" ∷ []) ≡ (label ∷ []) ∷ [] ∷ [] ∷ []
last_kept = refl

-- two sheets `A` and one `B`; in the last `A` one cell is given twice, and its formula too
abbrev entries : List ListEntry
entries =
    sheet_entry 0x00 0x00 (0x01 ∷ 0x00 ∷ 0x41 ∷ []) (number (cell 0x00 0x00 0x00) three ∷ one_region ∷ [])
    ∷ sheet_entry 0x00 0x00 (0x01 ∷ 0x00 ∷ 0x42 ∷ []) (one_region ∷ [])
    ∷ sheet_entry 0x00 0x00 (0x01 ∷ 0x00 ∷ 0x41 ∷ []) (formula (cell 0x00 0x00 0x00) yes (0x03 ∷ 0x00 ∷ 0x1E ∷ 0x05 ∷ 0x00 ∷ []) ∷ formula (cell 0x00 0x00 0x00) two (0x02 ∷ 0x00 ∷ 0x1D ∷ 0x01 ∷ []) ∷ two_regions ∷ []) ∷ []

abbrev view_of_a : SheetView
view_of_a = record {
  cells = ((0, 0), float (Bits 0x4000_0000_0000_0000)) ∷ [];
  formulas = ((0, 0), codes "TRUE") ∷ [];
  merges = record { start = (4, 6); end = (5, 6) } ∷ record { start = (7, 9); end = (8, 9) } ∷ [];
}

abbrev view_of_b : SheetView
view_of_b = record { cells = []; formulas = []; merges = record { start = (0, 2); end = (1, 3) } ∷ [] }

abbrev book : BookView
book = record {
  sheets = content (codes "A") ∷ content (codes "B") ∷ content (codes "A") ∷ [];
  names = [];
  contents = view_of_a ∷ view_of_b ∷ view_of_a ∷ [];
  is_1904 = false;
  classes = [];
}

-- of two values at a place the second is there
second : {X : Type 0} (b : Bool) (x y : X) → option_or None (if b then Some y else None) ≡ option_or (option_or None (if b then Some y else None)) (if b then Some x else None)
second true x y = refl
second false x y = refl

is_a : IsContent (settings_of (limit 8) entries) (kept_named (sheets_of (limit 8) entries) (codes "A")) view_of_a
unfolding digits
is_a = record {
  ascending = (tt, tt);
  last = λ p. second ((0 == p.0) && (0 == p.1)) (truth true) (float (Bits 0x4000_0000_0000_0000));
  formulas_ascending = (tt, tt);
  last_formulas = λ p. second ((0 == p.0) && (0 == p.1)) (codes "5") (codes "TRUE");
  merges = refl;
}

-- each `A` shows what the last one has
pub one_name : IsReading (limit 8) entries book
one_name = record {
  sheets = refl;
  names = refl;
  contents = (is_a, (record { ascending = tt; last = λ p. refl; formulas_ascending = tt; last_formulas = λ p. refl; merges = refl }, (is_a, tt)));
  date_system = refl;
  classes = refl;
}

-- and so does a look-up by name: here where the contents are told apart
pub displayed : map (displayed_of (record book { contents = view_of_a ∷ view_of_b ∷ view_of_b ∷ [] })) (codes "A" ∷ codes "B" ∷ codes "C" ∷ []) ≡ Some view_of_b ∷ Some view_of_b ∷ None ∷ []
displayed = refl

-- ---- what isn't the reading

-- a workbook of the same sheets with other contents
abbrev showing : SheetView → SheetView → BookView
showing a b = record book { contents = a ∷ b ∷ view_of_a ∷ [] }

-- no value, a truth value, and another one
abbrev kind : Option Content → ℕ
kind None = 0
kind (Some (truth b)) = 1
kind (Some c) = 2

abbrev size : Option (List ℕ) → ℕ
size None = 0
size (Some cs) = length cs

differ : (m n : ℕ) → m ≡ n → m < n → ⊥
differ m n e l = omega arith

-- no value, and the one that is given to the cell first
pub not_no_value : IsReading (limit 8) entries (showing (record view_of_a { cells = [] }) view_of_b) → ⊥
not_no_value r = differ 0 2 (ap kind (r.contents.0.last (0, 0))) (lit< tt)

pub not_first_value : IsReading (limit 8) entries (showing (record view_of_a { cells = ((0, 0), truth true) ∷ [] }) view_of_b) → ⊥
not_first_value r = differ 1 2 (ap kind (r.contents.0.last (0, 0))) (lit< tt)

-- the formula that is given to it first
pub not_first_formula : IsReading (limit 8) entries (showing (record view_of_a { formulas = ((0, 0), codes "5") ∷ [] }) view_of_b) → ⊥
not_first_formula r = differ 1 4 (ap size (r.contents.0.last_formulas (0, 0))) (lit< tt)

-- no regions, and those of the first sheet of the name
pub not_no_regions : IsReading (limit 8) entries (showing view_of_a (record view_of_b { merges = [] })) → ⊥
not_no_regions r = differ 0 1 (ap length r.contents.1.0.merges) (lit< tt)

pub not_first_regions : IsReading (limit 8) entries (showing (record view_of_a { merges = view_of_b.merges }) view_of_b) → ⊥
not_first_regions r = differ 1 2 (ap length r.contents.0.merges) (lit< tt)

-- a sheet fewer, the other date system, a name and a class too many
pub not_fewer : IsReading (limit 8) entries (record book { sheets = content (codes "A") ∷ content (codes "B") ∷ [] }) → ⊥
not_fewer r = differ 2 3 (ap length r.sheets) (lit< tt)

pub not_1904 : IsReading (limit 8) entries (record book { is_1904 = true }) → ⊥
not_1904 r = differ 0 1 (sym (ap (λ b. if b then 1 else 0) r.date_system)) (lit< tt)

pub not_named : IsReading (limit 8) entries (record book { names = (codes "N", codes "1") ∷ [] }) → ⊥
not_named r = differ 0 1 (sym (ap length r.names)) (lit< tt)

pub not_classed : IsReading (limit 8) entries (record book { classes = Other ∷ [] }) → ⊥
not_classed r = differ 0 1 (sym (ap length r.classes)) (lit< tt)
