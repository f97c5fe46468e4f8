use Rattle.xls_lay.proofs.StringLemmas.{Counted}
use Rattle.xls_lay.proofs.units.fill_strings.Given as goal

abbrev pub invariant-loop-size : goal.invariant-loop-size
invariant-loop-size l = Counted l.fn.fill l.fill l.sizes l.units l.rest l.size-index
