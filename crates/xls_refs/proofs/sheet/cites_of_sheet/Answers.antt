use Rattle.std.proofs.Common.{◌∙◌, sym, ap}
use Rattle.std.specs.Prelude.{slice_get}
use Rattle.xls_formula.specs.Context.{Context}
use Rattle.xls_refs.proofs.ViewLemmas.{found_sheet, no_name_at, none_mapped, nothing_displayed_at}
use Rattle.xls_refs.proofs.sheet.cites_of_sheet.Goals as goal

pub returns-in-Some-2 : goal.returns-in-Some-2
returns-in-Some-2 c =
    found_sheet c.args.view.now c.args.sheet _ _ _
    (c.in-Some.ensures ∙ ap (λ (x : Context). slice_get x.sheets c.args.sheet) c.naming.ensures)
    (sym c.in-Some-2.is ∙ c.in_ok-formulas-in-Some.ensures.tokens) c.naming-in-Some-2.ensures

-- no sheet has the index
pub returns-in-None-2 : goal.returns-in-None-2
returns-in-None-2 c =
    let context = c.args.view.now.context in
    sym (nothing_displayed_at context 0 context.sheets c.args.view.now.formulas c.args.sheet
    (none_mapped _ _ (sym c.in-None-2.is ∙ c.in_ok-formulas-in-Some.ensures.tokens)))

pub returns-in-None : goal.returns-in-None
returns-in-None c =
    let context = c.args.view.now.context in
    let name = c.in-None.ensures ∙ ap (λ (x : Context). slice_get x.sheets c.args.sheet) c.naming.ensures in
    sym (no_name_at context 0 context.sheets c.args.view.now.formulas c.args.sheet (sym name))
