use Rattle.xls_output.proofs.EachLemmas.{puts-memory}
use Rattle.xls_beside.specs.Lines.{IsLineText}
use Rattle.xls_beside.proofs.styles.put_all.Goals as goal

pub returns-in_err-strings : goal.returns-in_err-strings
returns-in_err-strings g c = puts-memory (IsLineText c.args.form) _ _ _ _ _ c.from_residual.result c.from_residual.ensures.1
