-- What is told of a workbook: its cells' numbers are what the codes of the cells say.
use Rattle.std.specs.Prelude.{List, map}
use Rattle.std.specs.List.{zip}
use Rattle.xls_biff.specs.Cells.{CellEntry}
use Rattle.xls_meaning.specs.Reading.{BookView, SheetView}
use Rattle.xls_view.specs.Formats.{FormattedCell, plain}
use Rattle.xls_view.specs.Viewing.{Viewed}
use Rattle.xls_cell_formats.specs.Cells.{classed_cell}

-- a cell whose number, if it is one, is what its code says
abbrev pub classed_entry : Viewed → FormattedCell → CellEntry
classed_entry view c = plain (classed_cell view c)

-- what a sheet shows, with these of its cells
abbrev pub classed_content : Viewed → SheetView × List FormattedCell → SheetView
classed_content view s = record s.0 { cells = map (classed_entry view) s.1 }

-- what a workbook shows, likewise
abbrev pub classed_book : Viewed → BookView
classed_book view =
    record view.book { contents = map (classed_content view) (zip view.book.contents view.formatted) }
