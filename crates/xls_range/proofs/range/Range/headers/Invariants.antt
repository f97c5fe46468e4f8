use Rattle.std.proofs.Common.{take}
use Rattle.std.specs.List.{AllZip}
use Rattle.xls_range.specs.Headers.{Prints}
use Rattle.xls_range.proofs.range.Range.headers.Given as goal

abbrev pub invariant-loop-cell : goal.invariant-loop-cell
invariant-loop-cell g l = AllZip (Prints g.T.Display.output) (take l.cell-index l.first) l.headers.items
