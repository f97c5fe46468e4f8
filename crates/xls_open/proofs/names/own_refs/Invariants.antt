use Rattle.std.proofs.Common.{◌≡◌}
use Rattle.xls_meaning.specs.Settings.{own_refs}
use Rattle.xls_open.proofs.names.own_refs.Given as goal

-- the references of the sheets so far
abbrev pub invariant-loop-i : goal.invariant-loop-i
invariant-loop-i l = l.refs ≡ own_refs l.i
