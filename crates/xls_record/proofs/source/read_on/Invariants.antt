use Rattle.std.specs.Io.KnownBytes.{Keeps}
use Rattle.xls_record.proofs.source.read_on.Given as goal

-- no byte was taken so far
abbrev pub invariant-loop : goal.invariant-loop
invariant-loop g l = Keeps (g.R.Read.remaining l.fn.inner) (g.R.Read.remaining l.inner)
