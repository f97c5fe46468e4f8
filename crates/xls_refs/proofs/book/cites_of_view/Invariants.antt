use Rattle.std.proofs.Common.{◌≡◌, map, take}
use Rattle.std.specs.List.{flat_map}
use Rattle.xls_refs.specs.Cited.{book_citation_of}
use Rattle.xls_refs.specs.Views.{each_cited, sheets_cited}
use Rattle.xls_refs.proofs.book.cites_of_view.Given as goal

-- what the sheets so far cite
abbrev pub invariant-loop-sheet : goal.invariant-loop-sheet
invariant-loop-sheet l = map book_citation_of l.items.items ≡ flat_map each_cited (take l.sheet (sheets_cited l.view))
