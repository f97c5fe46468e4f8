use Rattle.std.proofs.Common.{sym, ◌∙◌}
use Rattle.xls_output.specs.Output.{output_of}
use Rattle.xls_listing.proofs.DisplayedLemmas.{formula_none, formula_displayed, no_characters, some_characters}
use Rattle.xls_output.proofs.EachLemmas.{each-as, each-none, puts-as}
use Rattle.xls_listing.proofs.formulas.put_displayed_formula.Goals as goal

pub returns-then-is_empty : goal.returns-then-is_empty
returns-then-is_empty g c =
    each-as (each-none (g.F.LineForm.is_text c.args.form.now) _)
    (sym (formula_none (c.args.row, c.args.column) _ (no_characters c.args.text.now (sym c.if-is_empty.true ∙ c.is_empty.ensures))))

pub returns : goal.returns
returns g c =
    let out = output_of g.K.Sink.state g.F.Buffer.Gathers.kept in
    let some = some_characters c.args.text.now c.utf8.text (sym c.if-is_empty.false ∙ c.is_empty.ensures) in
    puts-as (g.F.LineForm.is_text c.args.form.now) (out c.args.out.now) (out c.put_formula.new.out) c.put_formula.result
    (formula_displayed (c.args.row, c.args.column) _ some) c.put_formula.ensures
