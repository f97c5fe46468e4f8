-- Which cells of a sheet have formulas, by the Formula records ([MS-XLS] 2.4.127) among the sheet's own, and where those stand.
use Rattle.std.specs.Prelude.{ℕ, List, map, ◌==◌, if◌then◌else◌, Option, None}
use Rattle.std.specs.Option.{option_map}
use Rattle.std.specs.List.{filter_map}
use Rattle.xls_range.specs.Positions.{Entry}
use Rattle.xls_stream.specs.declared.types.TheConstants.{FORMULA}
use Rattle.xls_parts.specs.PartRecords.{Placed}
use Rattle.xls_style_cells.specs.Order.{settled}
use Rattle.xls_shared_formulas.specs.declared.fields.CellPlace.{CellPlace}
use Rattle.xls_shared_formulas.specs.Fields.{formula_cell}
use Rattle.xls_formula_cells.specs.declared.place.FormulaPlace.{FormulaPlace}

-- a cell, by its row and column, with the place of a record's header in the stream
abbrev pub placed_cell : ℕ → CellPlace → Entry ℕ
placed_cell offset cell = ((cell.row, cell.column), offset)

-- what a Formula record gives: its cell with its place; nothing where its row and column aren't there
abbrev pub formula_at : Placed → Option (Entry ℕ)
formula_at r = if r.typ == FORMULA then option_map (placed_cell r.offset) (formula_cell r.body) else None

-- those of some records, in the order of the stream
abbrev pub formulas_in : List Placed → List (Entry ℕ)
formulas_in records = filter_map formula_at records

-- by row and then by column, of those of one cell the last in the stream
abbrev pub formulas_of : List Placed → List (Entry ℕ)
formulas_of records = settled (formulas_in records)

-- ---- as the code gives them

abbrev pub place_of : Entry ℕ → FormulaPlace
place_of e = record { row = e.0.0; column = e.0.1; offset = e.1 }

abbrev pub entry_of : FormulaPlace → Entry ℕ
entry_of p = ((p.row, p.column), p.offset)

abbrev pub places_of : List Placed → List FormulaPlace
places_of records = map place_of (formulas_of records)

-- a sheet's part, which begins at an offset of the stream, and where its formulas stand
pub record SheetPlaces : Type 0 where
  pub offset : ℕ
  pub part : List ℕ
  pub places : List FormulaPlace
