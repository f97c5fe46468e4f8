use Rattle.std.proofs.Common.{sym}
use Rattle.std.proofs.lemmas.Result.{on_ok_weaker}
use Rattle.std.specs.Str.{chars}
use Rattle.xls_meaning.specs.SheetTable.{FormulaEntry}
use Rattle.xls_arrays.proofs.LaidLemmas.{lays-formula}
use Rattle.xls_arrays.proofs.TextLemmas.{encodes}
use Rattle.xls_arrays.proofs.formulas.lay_formula_text.Goals as goal

pub returns-clause-ok : goal.returns-clause-ok
returns-clause-ok c =
    let entry : FormulaEntry = ((c.args.row, c.args.column), chars c.args.text.now) in
    on_ok_weaker c.lay_formula_item.result
    (lays-formula entry c.in_ok-text.ensures.ok (sym (encodes c.args.text.now c.utf8.text)))
    c.lay_formula_item.ensures.ok
