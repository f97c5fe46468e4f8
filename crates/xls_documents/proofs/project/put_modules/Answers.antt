use Rattle.std.proofs.Common.{◌∙◌}
use Rattle.xls_documents.specs.Lines.{IsLineText}
use Rattle.xls_documents.specs.Projects.{named_lines}
use Rattle.xls_documents.proofs.LineLemmas.{lent_lines, whole_lines}
use Rattle.xls_output.proofs.EachLemmas.{each-as, each-item, each-item-stopped, each-none, each-stops-as, puts-each-stop}
use Rattle.xls_documents.proofs.project.put_modules.Goals as goal

pub loop-name-init : goal.loop-name-init
loop-name-init g c = each-none (IsLineText c.args.form) _

pub returns-in_err-put_named : goal.returns-in_err-put_named
returns-in_err-put_named g c =
    let lines = named_lines c.args.project.now.modules in
    puts-each-stop c.from_residual.result c.from_residual.ensures.1
    (each-stops-as (each-item-stopped (λ name. lines name.now) c.args.names.now c.loop-name.name-index _ c.loop-name-test.true
    c.loop-name.invariant c.in_err-put_named.ensures) (lent_lines lines c.args.names.now))

pub loop-name-preserved : goal.loop-name-preserved
loop-name-preserved g c =
    each-item (λ name. named_lines c.args.project.now.modules name.now) c.args.names.now c.loop-name.name-index _ c.loop-name-test.true
    c.loop-name.invariant c.in_ok-put_named.ensures

pub returns : goal.returns
returns g c =
    let lines = named_lines c.args.project.now.modules in
    each-as c.loop-name.invariant (whole_lines (λ name. lines name.now) c.args.names.now _ c.loop-name-test.false ∙ lent_lines lines c.args.names.now)
