use Rattle.std.proofs.Common.{◌≡◌, ◌++◌, map}
use Rattle.xls_refs.specs.Cited.{book_citation_of}
use Rattle.xls_refs.specs.Views.{each_cited}
use Rattle.xls_refs.proofs.book.put_sheet.Given as goal

-- what is cited so far, and what the formulas that are left cite
abbrev pub invariant-loop-formula : goal.invariant-loop-formula
invariant-loop-formula l =
    (goal.iterator-loop-formula).can_next l.formula-iterator ×
    (goal.iterator-loop-formula).is_finite l.formula-iterator ×
    (map book_citation_of l.out.items ++ each_cited l.formula-iterator
    ≡ map book_citation_of l.fn.out.items ++ each_cited l.cites)
