use Rattle.std.proofs.Common.{◌≡◌, ◌++◌, take}
use Rattle.xls_comments.proofs.units.push_narrow.Given as goal

abbrev pub invariant-loop-b : goal.invariant-loop-b
invariant-loop-b l = l.units.items ≡ l.initial.units.items ++ take l.b-index l.taken
