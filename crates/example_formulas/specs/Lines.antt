-- The lines of formulas.
use Rattle.std.specs.Prelude.{ℕ, List, [], ◌∷◌, ◌++◌, ◌+◌, codes, Option, Some, None}
use Rattle.std.specs.List.{flat_map}
use Rattle.std.specs.Fmt.{decimal}
use Rattle.xls_bytes.specs.Columns.{column_name}
use Rattle.xls_bytes.specs.Escapes.{escaped_text}
use Rattle.xls_data.specs.Sheets.{SheetContent}
use Rattle.xls_meaning.specs.SheetTable.{FormulaEntry, nonempty_formulas}
use Rattle.xls_meaning.specs.Reading.{SheetView}

-- the sheet, the cell as `B7`, and the text, separated by tabs, and a newline
abbrev pub formula_line : List ℕ → FormulaEntry → List ℕ
formula_line sheet f =
    escaped_text sheet ++ (codes "\t" ++ (column_name f.0.1 ++ (decimal (f.0.0 + 1) ++ (codes "\t"
    ++ (escaped_text f.1 ++ codes "\n")))))

-- the lines of the formulas of a sheet of this name, if there is one; a formula whose text is empty
-- has none
abbrev pub lines_at : List ℕ → Option SheetView → List ℕ
lines_at sheet None = []
lines_at sheet (Some view) = flat_map (formula_line sheet) (nonempty_formulas view.formulas)

-- the lines of the formulas of all sheets, in the order of the workbook
abbrev pub listing : List SheetContent → List SheetView → List ℕ
listing [] views = []
listing (s ∷ sheets) [] = []
listing (s ∷ sheets) (v ∷ views) =
    lines_at s.name (Some v) ++ listing sheets views
