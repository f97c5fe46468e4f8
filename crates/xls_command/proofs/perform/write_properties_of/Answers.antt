use Rattle.std.proofs.Common.{inl, refl, Some}
use Rattle.xls_documents.specs.Lines.{exact_lines}
use Rattle.xls_documents.specs.Properties.{property_lines}
use Rattle.xls_report.proofs.EndingLemmas.{either-memory, either-stopped}
use Rattle.xls_command.specs.Outputs.{IsOutput, IsRefusalText}
use Rattle.xls_command.specs.declared.command.Command.TheVariants.{Props}
use Rattle.xls_command.proofs.ExactLemmas.{documents-stop, documents-wrote}
use Rattle.xls_command.proofs.perform.write_properties_of.Goals as goal

pub returns-in_err-properties : goal.returns-in_err-properties
returns-in_err-properties g c =
    either-memory (IsOutput Props (Some c.args.bytes.now)) (IsRefusalText Props (Some c.args.bytes.now)) (g.K.Sink.state c.args.sink.now) c.from_residual.result c.from_residual.ensures.1

pub returns-in_err-write_properties : goal.returns-in_err-write_properties
returns-in_err-write_properties g c =
    let a = c.from_residual-in_err-write_properties in
    let p = c.in_ok-properties.properties in
    either-stopped (IsOutput Props (Some c.args.bytes.now)) (IsRefusalText Props (Some c.args.bytes.now)) a.result a.ensures.1
    (inl (c.requires.within, (p, c.in_ok-properties.ensures, c.in_err-write_properties.ensures.ordered, refl)))
    (documents-stop (property_lines p) _ _ _ c.in_err-write_properties.ensures.delivers)

pub returns : goal.returns
returns g c =
    let p = c.in_ok-properties.properties in (
      exact_lines (property_lines p),
      (c.requires.within, (p, c.in_ok-properties.ensures, c.in_ok-write_properties.ensures.ordered, refl)),
      documents-wrote (property_lines p) _ _ c.in_ok-write_properties.ensures.delivers,
    )
