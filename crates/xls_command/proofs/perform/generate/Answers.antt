use Rattle.std.proofs.Common.{None}
use Rattle.xls_report.proofs.EndingLemmas.{either-memory}
use Rattle.xls_command.specs.Outputs.{IsOutput, IsRefusalText}
use Rattle.xls_command.specs.declared.command.Command.TheVariants.{Generate}
use Rattle.xls_command.proofs.perform.generate.Goals as goal

pub returns-in_err-summary : goal.returns-in_err-summary
returns-in_err-summary g c =
    either-memory (IsOutput (Generate c.args.rows) None) (IsRefusalText (Generate c.args.rows) None) (g.K.Sink.state c.args.sink.now) c.from_residual.result c.from_residual.ensures.1
