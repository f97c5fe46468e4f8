-- Which style each cell of a sheet has, as items.
use Rattle.std.specs.Prelude.{ℕ, List, drop}
use Rattle.xls_style_cells.specs.Cells.{Cell, cells_of}
use Rattle.xls_open.specs.Globals.{State}
use Rattle.xls_parts.specs.PartRecords.{own_records}
use Rattle.xls_beside.specs.declared.parts.SheetPart.{SheetPart}
use Rattle.xls_arrays.specs.declared.faults.Fault.{Fault}
use Rattle.xls_arrays.specs.declared.options.Options.{Options}
use Rattle.xls_beside_arrays.specs.Answers.{FillsItems}
use Rattle.xls_beside_arrays.specs.Arrays.{Arrays, with_item}
use Rattle.xls_beside_arrays.specs.Opened.{IsOfSheet, RefusesSheet}
use Rattle.xls_beside_arrays.specs.declared.items.CellStyleItem.{CellStyleItem}
use Rattle.xls_beside_arrays.specs.declared.items.Counts.{Counts}

-- by position and index of XF
abbrev pub cell_style_item : Cell → CellStyleItem
cell_style_item c = record { row = c.0.0; column = c.0.1; style = c.1.0; reserved = 0 }

abbrev pub with_cell_style : Arrays CellStyleItem → Cell → Arrays CellStyleItem
with_cell_style a c = with_item a (cell_style_item c)

-- the cells in a part of the stream, by row and then by column
abbrev pub cells_in : State → List ℕ → SheetPart → List Cell
cells_in globals stream part = cells_of globals.version (own_records 0 (drop part.offset stream))

abbrev pub AreCellStyles : Options → List ℕ → Arrays CellStyleItem → Type 0
AreCellStyles = IsOfSheet with_cell_style cells_in

abbrev pub FillsCellStyles : Options → List ℕ → List CellStyleItem → Counts → Fault → ℕ → Type 0
FillsCellStyles options stream = FillsItems (AreCellStyles options stream) (RefusesSheet options stream)
