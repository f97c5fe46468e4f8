use Rattle.std.proofs.Common.{◌≡◌, map, take}
use Rattle.xls_open.specs.Globals.{listed_of, names_listed}
use Rattle.xls_open.proofs.names.sheet_names.Given as goal

-- the names of the sheets so far
abbrev pub invariant-loop-next : goal.invariant-loop-next
invariant-loop-next l = l.names ≡ names_listed (map listed_of (take l.next-index l.listed))
