use Rattle.xls_lines.specs.Lines.{tabbed_field}
use Rattle.xls_output.proofs.OutputLemmas.{gathers-item, puts-stop, stops-item}
use Rattle.xls_lines.proofs.put.put_fields.Goals as goal

pub returns-in_err-put_field : goal.returns-in_err-put_field
returns-in_err-put_field g c =
    puts-stop c.from_residual.result c.from_residual.ensures.1 (stops-item tabbed_field c.args.fields.now c.loop-field.field-index _ c.loop-field-test.true c.loop-field.invariant (rw c.field-item.is at c.in_err-put_field.ensures))

pub loop-field-preserved : goal.loop-field-preserved
loop-field-preserved g c =
    gathers-item tabbed_field c.args.fields.now c.loop-field.field-index _ c.loop-field-test.true c.loop-field.invariant (rw c.field-item.is at c.in_ok-put_field.ensures)
