-- The records of a sheet: what each gives, or its first fault. One line a type.
use Rattle.std.specs.Prelude.{ℕ, List, [], ◌∷◌, Bool, IfOk, ◌==◌, if◌then◌else◌, length, Option, Some, None, Result, Ok, Err, ◌≡◌, ◌≢◌, ◌+◌, ◌*◌, ◌≤◌, ◌^◌, map}
use Rattle.xls_text.specs.declared.encoding.XlsEncoding.{XlsEncoding}
use Rattle.xls_stream.specs.Substreams.{is_among, sheet_types}
use Rattle.xls_stream.specs.declared.types.TheConstants as types
use Rattle.xls_data.specs.Content.{Content}
use Rattle.xls_data.specs.declared.regions.Dimensions.{Dimensions}
use Rattle.xls_dates.specs.declared.formats.CellFormat.{CellFormat}
use Rattle.xls_record.specs.declared.version.Biff.{Biff}
use Rattle.xls_record.specs.declared.error.XlsError.{XlsError}
use Rattle.xls_record.specs.Reading.{Exactly, gives}
use Rattle.xls_strings.specs.Strings.{string_at}
use Rattle.xls_biff.specs.Cells.{CellEntry, Position, characters_in}
use Rattle.xls_biff.specs.Lines.{line_of}
use Rattle.xls_biff.specs.Records.BoolErr.{bool_err_at, bes_entry}
use Rattle.xls_biff.specs.Records.Dimensions.{dimensions_at}
use Rattle.xls_biff.specs.Records.Formula.{formula_at, formula_parts}
use Rattle.xls_biff.specs.Records.Label.{label_at, label_entry}
use Rattle.xls_biff.specs.Records.LabelSst.{label_sst_at, shared_entry}
use Rattle.xls_biff.specs.Records.MergeCells.{merges_at, region_at}
use Rattle.xls_biff.specs.Records.Number.{number_at, number_entry}
use Rattle.xls_biff.specs.Records.Rk.{mul_rk_at, rk_at, rk_cell, rk_entry}
use Rattle.std.specs.List.{range_with_len}
use Rattle.xls_biff.specs.declared.sheet_record.SheetRecord as read
use Rattle.xls_biff.specs.declared.sheet_record.SheetRecord.TheVariants as variant

-- what the records of a sheet are read under: page and version, classes by XF index, strings of the
-- table and date system
pub record CellContext : Type 0 where
  pub page : XlsEncoding
  pub version : Biff
  pub classes : List CellFormat
  pub strings : List (List ℕ)
  pub is_1904 : Bool

-- what a record of a sheet gives
pub data SheetRecord : Type 0 where
  -- nothing: Dimensions, and each type that isn't named here
  empty_record : SheetRecord
  -- cells: Number, RK, MulRk, BoolErr, Label, RString
  cells_record : (cs : List CellEntry) → SheetRecord
  -- a cell of a text of the table: LabelSst, none where its index is outside
  shared_record : (c : Option CellEntry) → SheetRecord
  -- the text of the Formula before it: String
  string_record : (cs : List ℕ) → SheetRecord
  -- a position, a value, if the record has one, and tokens: Formula
  formula_record : (at : Position) (value : Option Content) (tokens : List ℕ) → SheetRecord
  -- regions: MergeCells
  regions_record : (rs : List Dimensions) → SheetRecord

-- how the records of a type read
pub data TableLine : Type 0 where
  -- they give nothing, whatever their bodies
  other_line : TableLine
  -- they give nothing, and may have a fault
  empty_line : (read : CellContext → List ℕ → Result Unit XlsError) → TableLine
  -- a cell each
  cell_line : (read : CellContext → List ℕ → Result CellEntry XlsError) → TableLine
  cells_line : (read : CellContext → List ℕ → Result (List CellEntry) XlsError) → TableLine
  shared_line : (read : CellContext → List ℕ → Result (Option CellEntry) XlsError) → TableLine
  string_line : (read : CellContext → List ℕ → Result (List ℕ) XlsError) → TableLine
  formula_line : (read : CellContext → List ℕ → Result (Position × Option Content × List ℕ) XlsError) → TableLine
  regions_line : (read : CellContext → List ℕ → Result (List Dimensions) XlsError) → TableLine

-- one cell
abbrev pub cell_record : CellEntry → SheetRecord
cell_record c = cells_record (c ∷ [])

-- what a record of a line gives, or its first fault
abbrev pub read_on_line : TableLine → CellContext → List ℕ → Result SheetRecord XlsError
read_on_line other_line settings body = Ok empty_record
read_on_line (empty_line read) settings body = gives (λ u. empty_record) (read settings body)
read_on_line (cell_line read) settings body = gives cell_record (read settings body)
read_on_line (cells_line read) settings body = gives cells_record (read settings body)
read_on_line (shared_line read) settings body = gives shared_record (read settings body)
read_on_line (string_line read) settings body = gives string_record (read settings body)
read_on_line (formula_line read) settings body = gives (λ f. formula_record f.0 f.1 f.2) (read settings body)
read_on_line (regions_line read) settings body = gives regions_record (read settings body)

abbrev pub label_line : TableLine
label_line = cell_line (λ settings body. label_at settings.page settings.version body)

-- one line a type
abbrev pub sheet_table : List (ℕ × TableLine)
sheet_table =
    (types.NUMBER, cell_line (λ settings body. number_at settings.classes settings.is_1904 body))
    ∷ (types.DIMENSIONS, empty_line (λ settings body. gives (λ d. tt) (dimensions_at body)))
    ∷ (types.LABEL, label_line)
    ∷ (types.R_STRING, label_line)
    ∷ (types.BOOL_ERR, cell_line (λ settings body. bool_err_at body))
    ∷ (types.STRING, string_line (λ settings body. string_at settings.page settings.version body))
    ∷ (types.RK, cell_line (λ settings body. rk_at settings.classes settings.is_1904 body))
    ∷ (types.LABEL_SST, shared_line (λ settings body. label_sst_at settings.strings body))
    ∷ (types.MUL_RK, cells_line (λ settings body. mul_rk_at settings.classes settings.is_1904 body))
    ∷ (types.MERGE_CELLS, regions_line (λ settings body. merges_at body))
    ∷ (types.FORMULA, formula_line (λ settings body. formula_at settings.classes settings.is_1904 body))
    ∷ []

abbrev pub sheet_record_at : CellContext → ℕ → List ℕ → Result SheetRecord XlsError
sheet_record_at settings typ body = read_on_line (line_of other_line sheet_table typ) settings body

-- how many cells a record weighs; a Formula and a LabelSst count as one even where they give none
abbrev pub weight_of : SheetRecord → ℕ
weight_of empty_record = 0
weight_of (cells_record cs) = length cs
weight_of (shared_record c) = 1
weight_of (string_record cs) = 1
weight_of (formula_record at value tokens) = 1
weight_of (regions_record rs) = 0

-- the types of a sheet whose records don't weigh as one cell: a MulRk weighs as many as it gives, the
-- others none
abbrev pub other_weights : List ℕ
other_weights = types.MUL_RK ∷ types.MERGE_CELLS ∷ types.DIMENSIONS ∷ []

-- how many cells a record of a type weighs, whatever its body, if it isn't a MulRk
abbrev pub weight_of_type : ℕ → ℕ
weight_of_type typ = if is_among typ other_weights then 0 else if is_among typ sheet_types then 1 else 0

-- where a Formula stands
abbrev pub formula_position : SheetRecord → Option Position
formula_position (formula_record at value tokens) = Some at
formula_position g = None

-- likewise by its line of the table
abbrev pub position_in : Result SheetRecord XlsError → Option Position
position_in (Ok g) = formula_position g
position_in (Err e) = None

-- ---- a record that was read without what is in force

-- what it gives under what is in force, by the table of a sheet
abbrev pub stands_for : CellContext → read.SheetRecord → SheetRecord
stands_for settings variant.Other = empty_record
stands_for settings (variant.Number c) = cell_record (number_entry settings.classes settings.is_1904 c)
stands_for settings (variant.Rk c) = cell_record (rk_entry settings.classes settings.is_1904 c)
stands_for settings (variant.MulRk body count) =
    cells_record (map (rk_cell settings.classes settings.is_1904 body.now) (range_with_len 0 count))
stands_for settings (variant.BoolErr position value) = cell_record (bes_entry (position, value))
stands_for settings (variant.Label position string) = cell_record (label_entry settings.page settings.version (position, string.now))
stands_for settings (variant.LabelSst position index) = shared_record (shared_entry settings.strings (position, index))
stands_for settings (variant.String string) = string_record (characters_in (string_at settings.page settings.version string.now))
stands_for settings (variant.Formula f) =
    let parts = formula_parts settings.classes settings.is_1904 f in formula_record parts.0 parts.1 parts.2
stands_for settings (variant.MergeCells body count) = regions_record (map (region_at body.now) (range_with_len 0 count))
stands_for settings (variant.Dimensions d) = empty_record

-- of a record of this type and body: a MulRk and a MergeCells have the body, with all of its items, and
-- no other record has their types
abbrev pub HasItems : ℕ → List ℕ → read.SheetRecord → Type 0
HasItems typ body (variant.MulRk kept count) =
    (typ ≡ types.MUL_RK) × (kept.now ≡ body) × (length body ≡ 6 + 6 * count) × (count ≤ 2 ^ 16)
HasItems typ body (variant.MergeCells kept count) =
    (typ ≡ types.MERGE_CELLS) × (kept.now ≡ body) × (2 + 8 * count ≤ length body)
HasItems typ body _ = (typ ≢ types.MUL_RK) × (typ ≢ types.MERGE_CELLS)

-- what was read of a body under a version, as one of a type, is what the type's line gives, whatever else is
-- in force
pub record ReadsByType (typ : ℕ) (biff : Biff) (body : List ℕ) (result : Result read.SheetRecord XlsError) : Type 0 where
  pub exact : (settings : CellContext) → settings.version ≡ biff → Exactly (stands_for settings) result (sheet_record_at settings typ body)
  pub items : IfOk result (HasItems typ body)
