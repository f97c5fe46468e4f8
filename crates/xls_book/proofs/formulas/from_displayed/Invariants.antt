use Rattle.std.proofs.Common.{◌≡◌, length, map}
use Rattle.xls_meaning.specs.SheetTable.{nonempty_formulas}
use Rattle.xls_open.specs.Workbook.{formula_content}
use Rattle.xls_book.proofs.formulas.from_displayed.Given as goal

-- what was passed over isn't shown
abbrev pub invariant-loop-rest : goal.invariant-loop-rest
invariant-loop-rest l =
    nonempty_formulas (map formula_content l.rest) ≡ nonempty_formulas (map formula_content l.cells)

abbrev pub decreases-loop-rest : goal.decreases-loop-rest
decreases-loop-rest l = length l.rest
