use Rattle.std.proofs.Common.{map}
use Rattle.xls_beside_arrays.proofs.LaidLemmas.{IsPartly}
use Rattle.xls_beside_arrays.proofs.outside.lay_records.Given as goal
use Rattle.xls_beside_arrays.specs.Outside.{with_outside}
use Rattle.xls_other_books.specs.Formulas.{outside_of}

-- what the records so far cite is laid
abbrev pub invariant-loop-r : goal.invariant-loop-r
invariant-loop-r l =
    IsPartly with_outside (map (outside_of l.other) l.fn.records) (map (outside_of l.other) l.r-iterator) l.fn.rooms l.rooms
