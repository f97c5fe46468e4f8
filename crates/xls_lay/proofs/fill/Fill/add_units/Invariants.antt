use Rattle.xls_lay.proofs.FilledLemmas.{Adding}
use Rattle.xls_lay.proofs.fill.Fill.add_units.Given as goal

abbrev pub invariant-loop : goal.invariant-loop
invariant-loop l = Adding l.fn.self l.self l.is_wide l.units l.index
