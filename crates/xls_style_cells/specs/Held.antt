-- For the proofs: the cells by how a sheet holds them, and those that are left by how they are found.
use Rattle.std.specs.Prelude.{ℕ, List, map}
use Rattle.xls_record.specs.declared.version.Biff.{Biff}
use Rattle.xls_parts.specs.PartRecords.{own_records}
use Rattle.xls_style_cells.specs.Cells.{Cell, cells_in}
use Rattle.xls_style_cells.specs.Places.{cell_placed}
use Rattle.xls_style_cells.specs.declared.cells.Order.{Order}
use Rattle.xls_style_cells.specs.declared.cells.Order.TheVariants.{Stream, Places}
use Rattle.xls_style_cells.specs.declared.cells.CellsLeft.{CellsLeft}
use Rattle.xls_style_cells.specs.declared.cells.CellsLeft.TheVariants.{Walked, Placed}

-- as they stand in the part, or by their places
abbrev pub cells_held : Biff → List ℕ → Order → List Cell
cells_held version part Stream = cells_in version (own_records 0 part)
cells_held version part (Places places) = map (cell_placed version part) places

abbrev pub cells_left : CellsLeft → List Cell
cells_left (Walked cells) = cells
cells_left (Placed cells) = cells
