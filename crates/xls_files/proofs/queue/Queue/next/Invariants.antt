use Rattle.std.proofs.Common.{◌≡◌}
use Rattle.xls_files.proofs.queue.Queue.next.Given as goal

-- no file is made
abbrev pub invariant-items : goal.invariant-items
invariant-items g l = g.H.Host.files l.host ≡ g.H.Host.files l.fn.host
