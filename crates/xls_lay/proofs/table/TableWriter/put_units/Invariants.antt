use Rattle.xls_lay.specs.Putting.{TableHasRoom}
use Rattle.xls_lay.proofs.PutLemmas.{PutUnits}
use Rattle.xls_lay.proofs.table.TableWriter.put_units.Given as goal

abbrev pub invariant-loop-unit : goal.invariant-loop-unit
invariant-loop-unit l = PutUnits l.fn.done.items l.fn.self l.done.items l.self l.is_wide l.units l.unit-index × TableHasRoom l.self
