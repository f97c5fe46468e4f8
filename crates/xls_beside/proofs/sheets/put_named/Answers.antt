use Rattle.std.proofs.Common.{ap, sym, ◌∙◌}
use Rattle.std.specs.Option.{option_copied}
use Rattle.xls_output.proofs.EachLemmas.{puts-as}
use Rattle.xls_beside.specs.Parts.{lines_if}
use Rattle.xls_beside.specs.Lines.{IsLineText}
use Rattle.xls_beside.proofs.sheets.put_named.Goals as goal

pub returns-in-Some : goal.returns-in-Some
returns-in-Some g c = λ parts index.
    let found = ap option_copied (sym c.in-Some.is) ∙ c.get.ensures.value ∙ index c.args.name.now c.utf8.name in
    puts-as (IsLineText c.args.form) _ _ c.put.result (ap (lines_if (g.T.Tells.lines c.args.things.now)) found) c.put.ensures
