use Rattle.xls_documents.specs.Lines.{IsLineText}
use Rattle.xls_documents.specs.Properties.{displayed_field}
use Rattle.xls_output.proofs.EachLemmas.{each-item, each-item-stopped, each-none, puts-each-stop}
use Rattle.xls_documents.proofs.properties.put_fields.Goals as goal

pub loop-field-init : goal.loop-field-init
loop-field-init g c = each-none (IsLineText c.args.form) _

pub returns-in_err-put_property : goal.returns-in_err-put_property
returns-in_err-put_property g c =
    puts-each-stop c.from_residual.result c.from_residual.ensures.1
    (each-item-stopped displayed_field c.args.fields.now c.loop-field.field-index _ c.loop-field-test.true
    c.loop-field.invariant (rw c.field-item.is at c.in_err-put_property.ensures))

pub loop-field-preserved : goal.loop-field-preserved
loop-field-preserved g c =
    each-item displayed_field c.args.fields.now c.loop-field.field-index _ c.loop-field-test.true
    c.loop-field.invariant (rw c.field-item.is at c.in_ok-put_property.ensures)
