use Rattle.std.proofs.Common.{◌≡◌, take}
use Rattle.xls_refs.proofs.book.copy_of.Given as goal

-- the texts so far
abbrev pub invariant-loop-i : goal.invariant-loop-i
invariant-loop-i l = l.copy ≡ take l.i l.texts
