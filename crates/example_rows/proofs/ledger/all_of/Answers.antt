use Rattle.xls_data.specs.Data.{content_of}
use Rattle.xls_data.specs.declared.values.Data.{Data}
use Rattle.example_rows.proofs.LedgerLemmas.{gave-one}
use Rattle.example_rows.proofs.ledger.all_of.Goals as goal

pub loop-row-preserved : goal.loop-row-preserved
loop-row-preserved g c =
    gave-one (g.D.FromRow.answers Data content_of) c.args.rows c.loop-row.row-iterator c.next.new.self c.loop-row.all.items c.push.new.self.items c.in-Some.row c.in_ok-row.field-0 c.loop-row.invariant c.in-Some.ensures.steps c.in_ok-row.was c.in_ok-push.ensures.items
