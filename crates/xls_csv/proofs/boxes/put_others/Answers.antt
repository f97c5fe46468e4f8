use Rattle.xls_output.proofs.EachLemmas.{puts-each-stop}
use Rattle.xls_csv.proofs.RowLemmas.{fields_all, fields_more, fields_none, fields_stop}
use Rattle.xls_csv.proofs.boxes.put_others.Goals as goal

pub loop-column-init : goal.loop-column-init
loop-column-init g c = fields_none _ _ _ _ _ _

pub returns-in_err-put_separated-clause-puts : goal.returns-in_err-put_separated-clause-puts
returns-in_err-put_separated-clause-puts g c =
    puts-each-stop c.from_residual.result c.from_residual.ensures.1 (fields_stop c.loop-column-test.true c.loop-column.invariant c.in_err-put_separated.ensures.puts)

pub loop-column-preserved : goal.loop-column-preserved
loop-column-preserved g c =
    let field = c.in_ok-put_separated.ensures in
    fields_more c.loop-column-test.true c.loop-column.invariant field.puts field.cells

pub returns-clause-puts : goal.returns-clause-puts
returns-clause-puts g c = (fields_all c.loop-column-test.false c.loop-column.invariant).0

pub returns-clause-cells : goal.returns-clause-cells
returns-clause-cells g c = (fields_all c.loop-column-test.false c.loop-column.invariant).1
