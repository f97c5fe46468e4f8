-- A workbook stream of so many rows, with a whole number and a word in each: its bytes, the logical
-- list that they carry, and the cells of its sheet.
use Rattle.std.specs.Prelude.{◌≡◌, ℕ, ℤ, pos, ◌+ℤ◌, ◌≤ℤ◌, ◌+◌, ◌-◌, ◌*◌, ◌/◌, ◌%◌, List, [], ◌∷◌, ◌++◌, length, map, codes, ◌==◌, if◌then◌else◌, Some}
use Rattle.std.specs.List.{flat_map, range_with_len, AllByRecursion}
use Rattle.xls_bytes.specs.Numbers.{le16}
use Rattle.xls_stream.specs.Stream.{record_bytes}
use Rattle.xls_stream.specs.Listing.{Kept, plain_entry, table_entry, sheet_entry}
use Rattle.xls_stream.specs.Listing as listing
use Rattle.xls_stream.specs.declared.types.TheConstants as types
pub use Rattle.xls_layouts.specs.LaidStrings.{le32}
use Rattle.xls_layouts.specs.Layout.{Layout}
use Rattle.xls_layouts.specs.Canonical.{canonical}
use Rattle.xls_data.specs.Content.{Content, int, text}
use Rattle.xls_data.specs.Data.{content_of}
use Rattle.xls_data.specs.Sheets.{SheetContent}
use Rattle.xls_data.specs.declared.values.Data.{Data}
use Rattle.xls_data.specs.declared.sheets.SheetType.TheVariants as kinds
use Rattle.xls_data.specs.declared.sheets.SheetVisible.TheVariants as states
use Rattle.xls_range.specs.Grid.{Grid}
use Rattle.xls_range.specs.Lists.{cells_from, used}
use Rattle.xls_biff.specs.Cells.{CellEntry}
use Rattle.xls_meaning.specs.Reading.{SheetView}
use Rattle.xls_open.specs.Workbook.{Workbook, view_named}
use Rattle.xls_open.specs.Opening.{default_options}
use Rattle.xls_book.specs.LookUps.{Blank}

-- ---- words

-- the word of a row: `a`, `bb` and `ccc` in turn
abbrev pub sample_word : ℕ → List ℕ
sample_word i =
    if i % 3 == 0 then codes "a" else if i % 3 == 1 then codes "bb" else codes "ccc"

-- the shared strings
abbrev pub sample_strings : List (List ℕ)
sample_strings = codes "a" ∷ codes "bb" ∷ codes "ccc" ∷ []

-- ---- the bodies of the records

-- the BOF record of the globals ([MS-XLS] 2.4.21): BIFF8, workbook globals
abbrev pub globals_body : List ℕ
globals_body = 0x00 ∷ 0x06 ∷ 0x05 ∷ 0x00 ∷ []

-- a one-byte string: so many characters, a flags byte and the characters
abbrev pub name_bytes : List ℕ
name_bytes = 1 ∷ 0 ∷ codes "G"

-- BoundSheet8 ([MS-XLS] 2.4.28): the offset of the sheet's BOF, a visible worksheet, and its name
abbrev pub sample_sheet_body : List ℕ
sample_sheet_body = le32 52 ++ (0 ∷ 0 ∷ name_bytes)

-- a shared string of one-byte characters: its length, a flags byte and its characters
abbrev pub shared_string : ℕ → List ℕ → List ℕ
shared_string size characters = le16 size ++ (0 ∷ characters)

-- SST ([MS-XLS] 2.4.265): three strings
abbrev pub table_body : List ℕ
table_body =
    le32 3 ++ (le32 3 ++ (shared_string 1 (codes "a") ++ (shared_string 2 (codes "bb")
    ++ shared_string 3 (codes "ccc"))))

-- the BOF record of the sheet: BIFF8, a worksheet
abbrev pub part_body : List ℕ
part_body = 0x00 ∷ 0x06 ∷ 0x10 ∷ 0x00 ∷ []

-- a cell: row, column, XF index 0 and a 32-bit number
abbrev pub cell_body : ℕ → ℕ → ℕ → List ℕ
cell_body row column number = le16 row ++ (le16 column ++ (le16 0 ++ le32 number))

-- in column 0 the number of the row, as an RK number: a whole number in the bits 2 to 31
abbrev pub int_body : ℕ → List ℕ
int_body i = cell_body i 0 (4 * i + 2)

-- in column 1 the index of the word of the row
abbrev pub word_body : ℕ → List ℕ
word_body i = cell_body i 1 (i % 3)

-- ---- the bytes

-- the globals: BOF, the sheet, the shared strings and EOF
abbrev pub sample_globals : List ℕ
sample_globals =
    record_bytes types.BOF globals_body ++ (record_bytes types.BOUND_SHEET_8 sample_sheet_body
    ++ (record_bytes types.SST table_body ++ record_bytes types.EOF []))

-- the two records of a row
abbrev pub sample_row : ℕ → List ℕ
sample_row i = record_bytes types.RK (int_body i) ++ record_bytes types.LABEL_SST (word_body i)

-- the rows from 0 on
abbrev pub sample_rows : ℕ → List ℕ
sample_rows n = flat_map sample_row (range_with_len 0 n)

-- the sheet part: BOF, the rows and EOF
abbrev pub sample_part : ℕ → List ℕ
sample_part n = record_bytes types.BOF part_body ++ (sample_rows n ++ record_bytes types.EOF [])

-- the stream of so many rows
unfoldable pub sample_stream : ℕ → List ℕ
sample_stream n = sample_globals ++ sample_part n

-- ---- the logical list

-- the records of a row
abbrev pub kept_row : ℕ → List Kept
kept_row i =
    record { typ = types.RK; body = int_body i }
    ∷ record { typ = types.LABEL_SST; body = word_body i } ∷ []

-- the records of the sheet
abbrev pub sample_kept : ℕ → List Kept
sample_kept n = flat_map kept_row (range_with_len 0 n)

-- a BOF record, a visible worksheet `G` with its records, and the shared strings
abbrev pub sample_list : ℕ → List listing.ListEntry
sample_list n =
    plain_entry types.BOF globals_body ∷ sheet_entry 0 0 name_bytes (sample_kept n)
    ∷ table_entry sample_strings ∷ []

-- its canonical layout, which the stream is (`sample_laid`)
abbrev pub sample_layout : ℕ → Layout
sample_layout n = canonical (sample_list n)

-- ---- the cells

-- of a row: its number, and its word
abbrev pub row_cells : ℕ → List CellEntry
row_cells i = ((i, 0), int (pos i)) ∷ ((i, 1), text (sample_word i)) ∷ []

-- of the sheet, by row, then column
abbrev pub sample_cells : ℕ → List CellEntry
sample_cells n = flat_map row_cells (range_with_len 0 n)

-- ---- the workbook

-- a visible worksheet `G`
abbrev pub sample_head : SheetContent
sample_head = record { name = codes "G"; typ = kinds.WorkSheet; visible = states.Visible }

-- the sheet shows its cells, and neither formulas nor merged regions
abbrev pub sample_view : ℕ → SheetView
sample_view n = record { cells = sample_cells n; formulas = []; merges = [] }

-- the workbook has the one sheet, under the options by default
pub record IsSample (n : ℕ) (book : Workbook) : Type 0 where
  pub options : book.options ≡ default_options
  pub sheets : book.sheets ≡ sample_head ∷ []
  pub contents : book.contents ≡ sample_view n ∷ []
  pub displayed : view_named book (codes "G") ≡ Some (sample_view n)

-- ---- the range

-- what the cells contain, row by row
abbrev pub sample_contents : ℕ → List Content
sample_contents n = map (λ (c : CellEntry). c.1) (sample_cells n)

-- the cells of a range that aren't blank, each with its row and its column
abbrev pub used_in : Blank → Grid Data → List (ℕ × ℕ × Data)
used_in blank range = used blank (cells_from 0 range.width range.cells)

-- what they contain, row by row
abbrev pub contents_in : Blank → Grid Data → List Content
contents_in blank range = map (λ (c : ℕ × ℕ × Data). content_of c.2) (used_in blank range)

-- the whole number, or 0 for any other content
abbrev pub int_of : Content → ℤ
int_of (int n) = n
int_of other = pos 0

-- the sum of the whole numbers among the contents
abbrev pub sum_of_ints : List Content → ℤ
sum_of_ints [] = pos 0
sum_of_ints (c ∷ cs) = int_of c +ℤ sum_of_ints cs

-- a content that is no negative whole number
abbrev pub IsNatural : Content → Type 0
IsNatural c = pos 0 ≤ℤ int_of c

-- the range has a row for each number and two columns, from the first position on; its used cells are
-- those that were made, two for each row; none is negative, and the whole numbers have their sum
pub record IsSampleRange (blank : Blank) (n : ℕ) (range : Grid Data) : Type 0 where
  pub top : range.top ≡ 0
  pub left : range.left ≡ 0
  pub height : range.height ≡ n
  pub width : range.width ≡ 2
  pub contents : contents_in blank range ≡ sample_contents n
  pub naturals : AllByRecursion IsNatural (contents_in blank range)
  pub count : length (used_in blank range) ≡ 2 * n
  pub sum : sum_of_ints (contents_in blank range) ≡ pos (n * (n - 1) / 2)
