use Rattle.xls_answers.proofs.FailureLemmas.{list-refused}
use Rattle.xls_answers.proofs.remake.write_remade.Goals as goal

pub returns-in_err-list : goal.returns-in_err-list
returns-in_err-list g c =
    list-refused c.args.bytes.now (g.K.Sink.state c.args.sink.now) c.in_err-list.field-0.0 c.from_residual.result c.from_residual.ensures.1 c.in_err-list.ensures
