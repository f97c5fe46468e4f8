use Rattle.xls_data.specs.Data.{content_of}
use Rattle.xls_data.specs.declared.values.Data.{Data}
use Rattle.example_rows.proofs.LedgerLemmas.{GaveSome}
use Rattle.example_rows.proofs.ledger.all_of.Given as goal

-- the rows so far have their values
abbrev pub invariant-loop-row : goal.invariant-loop-row
invariant-loop-row g l = GaveSome (g.D.FromRow.answers Data content_of) l.fn.rows l.row-iterator l.all.items
