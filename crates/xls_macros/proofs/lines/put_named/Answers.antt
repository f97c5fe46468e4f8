use Rattle.xls_output.proofs.EachLemmas.{puts-memory, puts-one}
use Rattle.xls_macros.specs.Lines.{IsPartText, module_named}
use Rattle.xls_macros.proofs.lines.put_named.Goals as goal

pub returns-in_err-push_named : goal.returns-in_err-push_named
returns-in_err-push_named g c = puts-memory (IsPartText c.args.form c.args.macros.now) _ _ _ _ _ c.from_residual.result c.from_residual.ensures.1

pub returns : goal.returns
returns g c =
    puts-one (IsPartText c.args.form c.args.macros.now) (module_named c.args.name.now) _ _ _ _ _ c.pass.result c.in_ok-push_named.ensures
    c.pass.ensures.puts
