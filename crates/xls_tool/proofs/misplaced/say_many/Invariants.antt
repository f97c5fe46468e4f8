use Rattle.std.proofs.Common.{◌≡◌}
use Rattle.xls_tool.proofs.misplaced.say_many.Given as goal

-- no file is made
abbrev pub invariant-paths : goal.invariant-paths
invariant-paths g l = g.H.Host.files l.host ≡ g.H.Host.files l.fn.host
