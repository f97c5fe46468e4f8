-- The cells of a sheet's own records: each cell record begins with Cell ([MS-XLS]), the row (rw) at 0, the column (col)
-- at 2 and the XF index (ixfe) at 4. MulRk and MulBlank hold the cells of a run of columns: the first column at 2, from
-- 4 on an XF index for each, in a MulRk with an RK number behind it, and the last column in the last two bytes.
use Rattle.std.specs.Prelude.{ℕ, ◌+◌, ◌-◌, ◌*◌, ◌/◌, List, [], ◌∷◌, length, drop, map, min, Bool, true, ◌&&◌, ◌||◌, not, nat_lt, ◌==◌, if◌then◌else◌, Option, Some, Result, Ok, Err}
use Rattle.std.specs.List.{range_with_len, flat_map}
use Rattle.xls_range.specs.Positions.{Position}
use Rattle.xls_stream.specs.Substreams.{is_among, sheet_types}
use Rattle.xls_stream.specs.declared.types.TheConstants as types
use Rattle.xls_record.specs.declared.version.Biff.{Biff}
use Rattle.xls_record.specs.declared.error.XlsError.{XlsError}
use Rattle.xls_parts.specs.PartRecords.{Placed}
use Rattle.xls_strings.specs.Strings.{StringHead, string_prefix}
use Rattle.xls_style_cells.specs.declared.types.TheConstants.{BLANK, MUL_BLANK}
use Rattle.xls_style_cells.specs.Fields.{u16_at, u32_at}
use Rattle.xls_style_cells.specs.Order.{settled}

-- ---- which cells a record has

-- the types of a sheet's records that aren't one cell each: a MulRk has several, a String is the text of the Formula
-- before it, MergeCells and Dimensions have none
abbrev pub other_types : List ℕ
other_types = types.MUL_RK ∷ types.STRING ∷ types.MERGE_CELLS ∷ types.DIMENSIONS ∷ []

-- the others, and Blank
abbrev pub is_cell_type : ℕ → Bool
is_cell_type typ = typ == BLANK || (is_among typ sheet_types && not (is_among typ other_types))

abbrev pub row_of : List ℕ → ℕ
row_of body = u16_at 0 body

abbrev pub first_column : List ℕ → ℕ
first_column body = u16_at 2 body

-- how many bytes from one XF index of a run to the next
abbrev pub step_of : ℕ → ℕ
step_of typ = if typ == types.MUL_RK then 6 else 2

-- so many cells of a run have their bytes, up to the column 65,535
abbrev pub run_count : ℕ → List ℕ → ℕ
run_count step body = min ((length body - 6) / step) (0x10000 - first_column body)

abbrev pub is_run_type : ℕ → Bool
is_run_type typ = typ == types.MUL_RK || typ == MUL_BLANK

-- how many cells a record has: none where it is shorter than 6 bytes
abbrev pub cell_count : Placed → ℕ
cell_count r =
    if nat_lt (length r.body) 6 then 0
    else if is_run_type r.typ then run_count (step_of r.typ) r.body
    else if is_cell_type r.typ then 1
    else 0

abbrev pub position_in : List ℕ → ℕ → Position
position_in body i = (row_of body, first_column body + i)

abbrev pub positions_of : Placed → List Position
positions_of r = map (position_in r.body) (range_with_len 0 (cell_count r))

-- ---- what a cell has

-- the XF index of the cell at a position
abbrev pub xf_at : Placed → Position → ℕ
xf_at r p = u16_at (4 + step_of r.typ * (p.1 - first_column r.body)) r.body

-- the formatting runs of a cell's text: none; those of a string of the table, by its index; or those of its own,
-- with the bytes behind its text
pub data Source : Type 0 where
  no_runs : Source
  shared_runs : (index : ℕ) → Source
  own_runs : (bytes : List ℕ) → Source

-- how many bytes so many units take, by the flag of their width
abbrev pub text_size : Option Bool → ℕ → ℕ
text_size (Some true) count = 2 * count
text_size wide count = count

-- the bytes behind the text of a string
abbrev pub behind_text : Result StringHead XlsError → List ℕ
behind_text (Ok head) = drop (text_size head.1 head.0) head.2
behind_text (Err e) = []

-- LabelSst: the index of the string (isst) at 6; RString: the string at 6, and its runs behind it
abbrev pub source_of : Biff → Placed → Source
source_of version r =
    if r.typ == types.LABEL_SST then (if nat_lt (length r.body) 10 then no_runs else shared_runs (u32_at 6 r.body))
    else if r.typ == types.R_STRING then own_runs (behind_text (string_prefix version (drop 6 r.body)))
    else no_runs

-- XF index and runs
abbrev pub Style : Type 0
Style = ℕ × Source

abbrev pub style_at : Biff → Placed → Position → Style
style_at version r p = (xf_at r p, source_of version r)

abbrev pub Cell : Type 0
Cell = Position × Style

abbrev pub cell_position : Cell → Position
cell_position c = c.0

abbrev pub with_style : Biff → Placed → Position → Cell
with_style version r p = (p, style_at version r p)

-- ---- all of them

abbrev pub cells_at : Biff → Placed → List Cell
cells_at version r = map (with_style version r) (positions_of r)

-- in the order of the stream
abbrev pub cells_in : Biff → List Placed → List Cell
cells_in version records = flat_map (cells_at version) records

-- by row and then by column, of those of one position the last in the stream
abbrev pub cells_of : Biff → List Placed → List Cell
cells_of version records = settled (cells_in version records)
