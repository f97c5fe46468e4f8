-- What a sheet shows.
use Rattle.std.specs.Prelude.{List, map}
use Rattle.xls_data.specs.declared.regions.Dimensions.{Dimensions}
use Rattle.xls_biff.specs.Cells.{CellEntry as Cell}
use Rattle.xls_formula.specs.Context.{Context}
use Rattle.xls_meaning.specs.Reading.{SheetView}
use Rattle.xls_view.specs.Formats.{FormattedCell}
use Rattle.xls_view.specs.Formulas.{Formula, text_entry}

-- what a sheet shows, its cells with their XF indices too, and what its formulas may name
pub record DisplayedSheet : Type 0 where
  pub cells : List Cell
  pub formatted : List FormattedCell
  pub formulas : List Formula
  pub merges : List Dimensions
  pub context : Context

-- with its formulas by their texts
abbrev pub sheet_view_of : DisplayedSheet → SheetView
sheet_view_of s = record { cells = s.cells; formulas = map (text_entry s.context) s.formulas; merges = s.merges }
