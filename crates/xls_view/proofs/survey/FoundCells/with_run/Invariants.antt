use Rattle.std.proofs.Common.{◌++◌, List, map}
use Rattle.std.specs.List.{range_with_len}
use Rattle.xls_biff.specs.Cells.{CellEntry}
use Rattle.xls_biff.specs.Records.Rk.{rk_cell}
use Rattle.xls_view.specs.Surveying.{IsFound}
use Rattle.xls_view.proofs.survey.FoundCells.with_run.Given as goal

-- the cells so far are found too
abbrev pub invariant-loop-i : goal.invariant-loop-i
invariant-loop-i l =
    (cells : List CellEntry) → IsFound l.fn.self cells
    → IsFound l.found (cells ++ map (rk_cell l.settings.cells.classes l.settings.cells.is_1904 l.body) (range_with_len 0 l.i))
