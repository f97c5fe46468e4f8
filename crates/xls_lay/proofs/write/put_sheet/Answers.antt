use Rattle.xls_output.proofs.OutputLemmas.{puts-memory}
use Rattle.xls_lay.proofs.PieceLemmas.{added_passed}
use Rattle.xls_lay.proofs.write.put_sheet.Goals as goal

pub returns-in_err-push_sheet : goal.returns-in_err-push_sheet
returns-in_err-push_sheet g c = puts-memory _ _ _ _ _ c.from_residual.result c.from_residual.ensures.1

pub returns : goal.returns
returns g c = added_passed _ _ _ _ _ _ c.pass.result c.in_ok-push_sheet.ensures c.pass.ensures.puts
