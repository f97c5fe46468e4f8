use Rattle.std.specs.Io.KnownBytes.{Keeps}
use Rattle.xls_output.proofs.sink.write_on.Given as goal

-- nothing was written so far
abbrev pub invariant-loop : goal.invariant-loop
invariant-loop g l = Keeps (g.W.Write.contents l.fn.inner) (g.W.Write.contents l.inner)
