use Rattle.std.proofs.Common.{◌≡◌}
use Rattle.xls_tool.proofs.many.count_files.Given as goal

-- no file is made
abbrev pub invariant-loop-count : goal.invariant-loop-count
invariant-loop-count g l = g.H.Host.files l.host ≡ g.H.Host.files l.fn.host
