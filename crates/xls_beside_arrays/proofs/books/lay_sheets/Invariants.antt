use Rattle.std.proofs.Common.{drop, map}
use Rattle.xls_beside_arrays.proofs.LaidLemmas.{IsPartly}
use Rattle.xls_beside_arrays.proofs.books.lay_sheets.Given as goal
use Rattle.xls_beside_arrays.specs.Books.{with_sheet}
use Rattle.xls_strings.specs.Texts.{text_of}

-- the sheets so far are laid
abbrev pub invariant-loop-name : goal.invariant-loop-name
invariant-loop-name l = IsPartly with_sheet (map text_of l.sheets) (map text_of (drop l.name-index l.sheets)) l.fn.rooms l.rooms
