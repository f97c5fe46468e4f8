use Rattle.xls_documents.specs.Lines.{IsLineText}
use Rattle.xls_documents.specs.Properties.{custom_lines}
use Rattle.xls_output.proofs.EachLemmas.{each-some-all, each-some-first, each-some-next, each-some-stopped, puts-each-stop}
use Rattle.xls_documents.proofs.properties.put_customs.Goals as goal

pub loop-name-init : goal.loop-name-init
loop-name-init g c =
    (tt, tt, each-some-first (IsLineText c.args.form) custom_lines _ _ _ c.into_iter-name-iterator.ensures.into_iter_gives)

pub loop-name-preserved : goal.loop-name-preserved
loop-name-preserved g c =
    (tt, tt, each-some-next custom_lines c.loop-name.invariant.2 c.in-Some.ensures.steps c.in_ok-put_custom.ensures)

pub returns-in_err-put_custom : goal.returns-in_err-put_custom
returns-in_err-put_custom g c =
    puts-each-stop c.from_residual.result c.from_residual.ensures.1
    (each-some-stopped custom_lines c.loop-name.invariant.2 c.in-Some.ensures.steps c.in_err-put_custom.ensures)

pub returns : goal.returns
returns g c = each-some-all custom_lines c.loop-name.invariant.2 c.in-None.ensures.steps.0
