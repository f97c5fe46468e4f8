use Rattle.xls_output.proofs.EachLemmas.{puts-memory, puts-one}
use Rattle.xls_macros.specs.Lines.{IsPartText, unread_listing}
use Rattle.xls_macros.proofs.lines.put_listing.Goals as goal

pub returns-in_err-why : goal.returns-in_err-why
returns-in_err-why g c = puts-memory (IsPartText c.args.form c.args.macros.now) _ _ _ _ _ c.from_residual.result c.from_residual.ensures.1

pub returns-in_err-push_damaged : goal.returns-in_err-push_damaged
returns-in_err-push_damaged g c =
    let a = c.from_residual-in_err-push_damaged in
    puts-memory (IsPartText c.args.form c.args.macros.now) _ _ _ _ _ a.result a.ensures.1

pub returns : goal.returns
returns g c =
    puts-one (IsPartText c.args.form c.args.macros.now) (unread_listing c.args.error.now) _ _ _ _ _ c.pass.result
    (rw (c.as_str.ensures.value, c.in_ok-why.ensures.ok) at c.in_ok-push_damaged.ensures) c.pass.ensures.puts
