use Rattle.xls_output.proofs.OutputLemmas.{puts-memory}
use Rattle.xls_lay.proofs.PieceLemmas.{added_passed}
use Rattle.xls_lay.proofs.write.put_record.Goals as goal

pub returns-in_err-push_record : goal.returns-in_err-push_record
returns-in_err-push_record g c = puts-memory _ _ _ _ _ c.from_residual.result c.from_residual.ensures.1

pub returns : goal.returns
returns g c = added_passed _ _ _ _ _ _ c.pass.result c.in_ok-push_record.ensures c.pass.ensures.puts
