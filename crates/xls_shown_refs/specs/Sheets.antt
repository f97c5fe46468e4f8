-- The cells that the formulas of a sheet cite.
use Rattle.std.specs.Prelude.{ℕ, List, map}
use Rattle.xls_bodies.specs.Bodies.{body_of}
use Rattle.xls_range.specs.Positions.{Position}
use Rattle.xls_shown_ptg.specs.Reading.{gives}
use Rattle.xls_shared_formulas.specs.Contents.{Content, formula, table, contents_of}
use Rattle.xls_shared_formulas.specs.Found.{formula_for, table_for}
use Rattle.xls_shared_formulas.specs.Start.{start_at}
use Rattle.xls_shared_formulas.specs.declared.fields.CellPlace.{CellPlace}
use Rattle.xls_shared_formulas.specs.declared.found.RangeFormula.{RangeFormula}
use Rattle.xls_shared_formulas.specs.declared.start.FormulaStart.{FormulaStart}
use Rattle.xls_shared_formulas.specs.declared.start.FormulaStart.TheVariants.{Own, Exp, Tbl}
use Rattle.xls_formula_cells.specs.Contents.{formula_contents}
use Rattle.xls_formula_cells.specs.declared.place.FormulaPlace.{FormulaPlace}
use Rattle.xls_shown_formulas.specs.Sheets.{Sheet, cell_of, place_in}
use Rattle.xls_shown_formulas.specs.Workbooks.{places_in}
use Rattle.xls_formula_leaves.specs.declared.places.Place.{Place}
use Rattle.xls_shown_refs.specs.Origins.{Citing}
use Rattle.xls_shown_refs.specs.Items.{Citation, or_none}
use Rattle.xls_shown_refs.specs.Citations.{citations, table_citations}

abbrev pub place_of : CellPlace → Place
place_of at = record { row = at.row; column = at.column }

-- the formula of a cell whose own offsets count from another one
abbrev pub citing : Sheet → CellPlace → CellPlace → Citing
citing s cell at = record {
  biff = s.book.version;
  cell = place_of cell;
  place = place_of at;
  here = s.here;
  globals = s.book.books;
  stream = s.book.stream;
}

-- what a record holds, for a cell, with the cell from which the offsets of its tokens count
abbrev pub content_citations : Sheet → CellPlace → CellPlace → Content → List Citation
content_citations s cell at (formula tokens extra) = citations (citing s cell at) tokens extra
content_citations s cell at (table inputs) = table_citations s.here inputs

-- the formula of a range for a cell: a shared one is the cell's, an array is the first cell's of its range for all of them, but that names in
-- it are the cell's; one that is cut cites nothing
abbrev pub range_citations : Sheet → CellPlace → RangeFormula → List Citation
range_citations s cell f =
    or_none (gives (content_citations s cell (place_in f.kind f.range cell)) (contents_of f.kind (body_of s.known.offset s.known.part f.offset)))

-- by the first token: PtgExp and PtgTbl point to the formula of a range that holds the cell, and where there is none cite nothing
abbrev pub citations_by : Sheet → CellPlace → List ℕ → List ℕ → FormulaStart → List Citation
citations_by s cell tokens extra Own = citations (citing s cell cell) tokens extra
citations_by s cell tokens extra (Exp token) = or_none (gives (range_citations s cell) (formula_for s.known.formulas token cell))
citations_by s cell tokens extra (Tbl token) = or_none (gives (range_citations s cell) (table_for s.known.tables token cell))

-- by a cell's tokens and extra bytes
abbrev pub cell_citations : Sheet → CellPlace → List ℕ → List ℕ → List Citation
cell_citations s cell tokens extra = or_none (gives (citations_by s cell tokens extra) (start_at tokens))

-- by the cell whose Formula record stands at a place
abbrev pub cited_at : Sheet → FormulaPlace → List Citation
cited_at s place =
    or_none (gives (λ x. cell_citations s (cell_of place) x.0 x.1) (formula_contents (body_of s.known.offset s.known.part place.offset)))

-- ---- all of a sheet

-- a cell with a formula, and what that cites
abbrev pub CellCites : Type 0
CellCites = Position × List Citation

abbrev pub cell_cites : Sheet → FormulaPlace → CellCites
cell_cites s place = ((place.row, place.column), cited_at s place)

-- by row and then by column, of those of one cell the last in the stream
abbrev pub sheet_cites : Sheet → List CellCites
sheet_cites s = map (cell_cites s) (places_in s)
