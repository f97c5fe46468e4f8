use Rattle.xls_output.proofs.EachLemmas.{each-stops-more, puts-each-stop, puts-then}
use Rattle.xls_macros.specs.Lines.{IsPartText, listing_parts}
use Rattle.xls_macros.proofs.lines.put_macros.Goals as goal

pub returns-in_err-put_damage : goal.returns-in_err-put_damage
returns-in_err-put_damage g c =
    puts-each-stop c.from_residual.result c.from_residual.ensures.1 (each-stops-more _ c.in_err-put_damage.ensures)

pub returns : goal.returns
returns g c =
    puts-then (IsPartText c.args.form c.args.macros.now) (listing_parts c.args.macros.now.damage) _ _ c.put_modules.result
    c.in_ok-put_damage.ensures c.put_modules.ensures
