use Rattle.std.proofs.Common.{◌≡◌}
use Rattle.xls_tool.proofs.unseen.tell_sheets.Given as goal

-- the files stay
abbrev pub invariant-loop-index : goal.invariant-loop-index
invariant-loop-index g l = g.H.Host.files l.host ≡ g.H.Host.files l.fn.host
