-- The cells of a sheet with the formats that they name ([MS-XLS] Cell, IXFCell), as functions of its kept records.
use Rattle.std.specs.Prelude.{ℕ, ◌+◌, ◌*◌, ◌==◌, if◌then◌else◌, take, drop, List, [], ◌∷◌, ◌++◌, unwrap_or, Bool}
use Rattle.std.specs.Option.{option_map}
use Rattle.xls_bytes.specs.Numbers.{le}
use Rattle.xls_stream.specs.Listing.{Kept}
use Rattle.xls_stream.specs.declared.types.TheConstants as types
use Rattle.xls_data.specs.Content.{Content}
use Rattle.xls_range.specs.Positions.{Position}
use Rattle.xls_dates.specs.declared.formats.CellFormat.{CellFormat}
use Rattle.xls_biff.specs.Cells.{CellEntry}
use Rattle.xls_biff.specs.Records.Rk.{rk_cell}
use Rattle.xls_biff.specs.SheetTable.{CellContext, position_in}
use Rattle.xls_meaning.specs.Settings.{Settings}
use Rattle.xls_meaning.specs.SheetTable.{kept_line, yield_at}
use Rattle.xls_meaning.specs.Reading.{yield_of}
use Rattle.xls_view.specs.declared.formats.LastFormula.{LastFormula}

-- ---- a cell

-- its position, its content and its XF index: which XF record of the globals formats it, counted from 0
abbrev pub FormattedCell : Type 0
FormattedCell = Position × (Content × ℕ)

abbrev pub with_format : CellEntry → ℕ → FormattedCell
with_format c xf = (c.0, (c.1, xf))

-- without its XF index
abbrev pub plain : FormattedCell → CellEntry
plain c = (c.0, c.1.0)

-- ---- a record

-- the XF index (ixfe) of a record's i-th cell: bytes 4 and 5 of a Cell; of a MulRk, whose cells have six bytes each
-- from byte 4 on, the first two of these ([MS-XLS] RkRec)
abbrev pub xf_at : List ℕ → ℕ → ℕ
xf_at body i = le (take 2 (drop (4 + 6 * i) body))

-- a String has none: it is the value of the Formula before it, whose XF index this is
abbrev pub xf_in : ℕ → Kept → ℕ → ℕ
xf_in last k i = if k.typ == types.STRING then last else xf_at k.body i

-- the cells of a record from the i-th on, by the XF index of each number
abbrev pub with_formats : (ℕ → ℕ) → ℕ → List CellEntry → List FormattedCell
with_formats xf i [] = []
with_formats xf i (c ∷ cs) = with_format c (xf i) ∷ with_formats xf (i + 1) cs

-- ---- records in order

-- where the last Formula stands, and its XF index
abbrev pub FormulaPlace : Type 0
FormulaPlace = Position × ℕ

-- before the first one
abbrev pub no_formula : FormulaPlace
no_formula = ((0, 0), 0)

-- after a record, where it was this before it
abbrev pub formula_after : CellContext → FormulaPlace → Kept → FormulaPlace
formula_after s last k = unwrap_or (option_map (λ (p : Position). (p, xf_at k.body 0)) (position_in (kept_line s k))) last

-- the cells of a record, where the last Formula before it is this
abbrev pub formatted_in : Settings → FormulaPlace → Kept → List FormattedCell
formatted_in s last k = with_formats (xf_in last.1 k) 0 (yield_of (yield_at s last.0 k)).cells

-- the cells of these records, where the last Formula before them is this
abbrev pub formatted_after : Settings → FormulaPlace → List Kept → List FormattedCell
formatted_after s last [] = []
formatted_after s last (k ∷ ks) = formatted_in s last k ++ formatted_after s (formula_after s.cells last k) ks

-- ---- as the code has them

-- the last Formula
abbrev pub last_formula : LastFormula → FormulaPlace
last_formula f = (f.at, f.xf)

-- the cell of a MulRk by its number, with its XF index
abbrev pub formatted_rk : List CellFormat → Bool → List ℕ → ℕ → FormattedCell
formatted_rk classes is_1904 body i = with_format (rk_cell classes is_1904 body i) (xf_at body i)
