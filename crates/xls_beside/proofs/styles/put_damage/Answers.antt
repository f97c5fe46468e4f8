use Rattle.xls_output.proofs.EachLemmas.{puts-memory}
use Rattle.xls_beside.specs.Lines.{IsLineText}
use Rattle.xls_beside.proofs.styles.put_damage.Goals as goal

pub returns-in_err-name : goal.returns-in_err-name
returns-in_err-name g c = puts-memory (IsLineText c.args.form) _ _ _ _ _ c.from_residual.result c.from_residual.ensures.1

pub returns-in_err-why : goal.returns-in_err-why
returns-in_err-why g c =
    puts-memory (IsLineText c.args.form) _ _ _ _ _ c.from_residual-in_err-why.result c.from_residual-in_err-why.ensures.1
