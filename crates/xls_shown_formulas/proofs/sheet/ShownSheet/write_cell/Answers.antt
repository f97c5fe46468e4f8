use Rattle.std.proofs.Common.{◌∙◌, ap, sym, Result, Ok}
use Rattle.xls_formula_shown.specs.Scope.{Scope}
use Rattle.xls_formula_shown.specs.ShownFold.{shown_text}
use Rattle.xls_shared_formulas.specs.Start.{start_at}
use Rattle.xls_shared_formulas.specs.declared.start.FormulaStart.{FormulaStart}
use Rattle.xls_shared_formulas.specs.declared.start.FormulaStart.TheVariants.{Own}
use Rattle.xls_shown_ptg.specs.declared.fault.Fault.{Fault}
use Rattle.xls_shown_formulas.specs.Sheets.{text_by}
use Rattle.xls_shown_formulas.proofs.TellLemmas.{bound, told}
use Rattle.xls_shown_formulas.proofs.sheet.ShownSheet.write_cell.Goals as goal

-- its own tokens
pub returns-in-Own : goal.returns-in-Own
returns-in-Own c =
    let tokens = c.args.bytes.tokens.now in
    let extra = c.args.bytes.extra.now in
    let ok : FormulaStart → Result FormulaStart Fault = λ x. Ok x in
    let starts = sym c.read_start.ensures ∙ (c.in_ok-read_start.was ∙ ap ok c.in-Own.is) in
    bound _ c.write_own.result (start_at tokens) Own (text_by c.args.self.now c.args.cell tokens extra) starts
    (told _ c.write_own.result _ _ (ap (λ (s : Scope). shown_text s tokens extra) c.scope.ensures) c.write_own.ensures)
