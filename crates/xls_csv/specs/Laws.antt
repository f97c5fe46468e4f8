-- Laws of the CSV, each over the definitions alone.
use Rattle.std.specs.Prelude.{◌≡◌, Bool, List, map}
use Rattle.xls_data.specs.Content.{date, nothing}
use Rattle.xls_data.specs.Data.{content_of, data_text}
use Rattle.xls_dates.specs.Dates.{DateParts}
use Rattle.xls_data.specs.declared.values.Data.{Data}
use Rattle.xls_range.specs.Grid.{Grid, IsRange}
use Rattle.xls_range.specs.Sparse.{IsAscending, IsDense}
use Rattle.xls_biff.specs.Cells.{CellEntry, cell_entry_of, Position}
use Rattle.xls_csv.specs.Fields.{field}
use Rattle.xls_csv.specs.Text.{rows_csv, contents_of}
use Rattle.xls_csv.specs.Dense.{dense, dense_rows, sheet_csv}
use Rattle.xls_csv.specs.Walk.{walk_rows}

-- the positions of cells
abbrev pub positions_of : List CellEntry → List Position
positions_of cells = map (λ (c : CellEntry). c.0) cells

-- cells that ascend, gone through once, give the rows of the dense box
abbrev pub WalksDense : Type 0
WalksDense = (cells : List CellEntry) → IsAscending (positions_of cells) → walk_rows nothing cells ≡ dense_rows nothing cells

-- so the rows joined are the CSV of the dense box
abbrev pub JoinsToCsv : Type 0
JoinsToCsv =
    (cells : List CellEntry) → IsAscending (positions_of cells) → rows_csv (walk_rows nothing cells) ≡ sheet_csv cells

-- the range that a dense box of values is has the contents of the dense box, whatever its values are
-- copied by, if equal values have equal contents
abbrev pub IsDenseOf : (Data → Data → Bool) → (Data → Bool) → Type 0
IsDenseOf eq blank =
    (cells : List (Position × Data)) (range : Grid Data)
    → IsRange range → IsDense eq blank cells range
    → contents_of range ≡ dense (map cell_entry_of cells)

-- the field of a value that is no date is its printed text
abbrev pub PrintsField : Type 0
PrintsField = (value : Data) → ((d : DateParts) → content_of value ≡ date d → ⊥)
    → field (content_of value) ≡ data_text value
