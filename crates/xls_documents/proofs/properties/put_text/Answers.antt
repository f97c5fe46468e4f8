use Rattle.xls_documents.specs.Lines.{IsLineText}
use Rattle.xls_documents.specs.Properties.{property_line}
use Rattle.xls_output.proofs.EachLemmas.{puts-memory, puts-one}
use Rattle.xls_documents.proofs.properties.put_text.Goals as goal

pub returns-in_err-push_property : goal.returns-in_err-push_property
returns-in_err-push_property g c = puts-memory (IsLineText c.args.form) _ _ _ _ _ c.from_residual.result c.from_residual.ensures.1

pub returns : goal.returns
returns g c =
    puts-one (IsLineText c.args.form) (property_line c.args.property c.args.text.now) _ _ _ _ _ c.pass.result c.in_ok-push_property.ensures.ok c.pass.ensures.puts
