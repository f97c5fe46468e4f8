use Rattle.std.proofs.Common.{drop}
use Rattle.xls_arrays.specs.Arrays.{with_sheet}
use Rattle.xls_arrays.specs.Classed.{classed_book}
use Rattle.xls_arrays.specs.Displayed.{each_with}
use Rattle.xls_arrays.proofs.LaidLemmas.{IsPartly}
use Rattle.xls_arrays.proofs.sheets.lay_whole_sheets.Given as goal

-- the sheets so far are laid
abbrev pub invariant-loop-i : goal.invariant-loop-i
invariant-loop-i l =
    let book = classed_book l.fn.view in
    IsPartly with_sheet (each_with book.sheets book.contents)
    (each_with (drop l.i book.sheets) (drop l.i book.contents)) l.fn.rooms l.rooms
