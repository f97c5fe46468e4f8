use Rattle.std.proofs.Common.{◌≡◌, take}
use Rattle.xls_book.proofs.collect.contents_of.Given as goal

-- the contents of the sheets so far
abbrev pub invariant-loop-n : goal.invariant-loop-n
invariant-loop-n l = l.contents.items ≡ take l.n l.view.book.contents
