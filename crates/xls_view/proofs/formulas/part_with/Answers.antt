use Rattle.std.proofs.Common.{map, sym, ap, ◌∙◌}
use Rattle.xls_view.specs.SheetContents.{kept_in}
use Rattle.xls_view.specs.Formulas.{Formula, formulas_kept}
use Rattle.xls_view.proofs.SurveyLemmas.{no_more}
use Rattle.xls_view.proofs.WalkLemmas.{kept_nothing}
use Rattle.xls_view.proofs.formulas.part_with.Goals as goal

pub returns-then-is_empty : goal.returns-then-is_empty
returns-then-is_empty c =
    let formulas = formulas_kept (kept_in c.args.part.now 0) in
    ap formulas_kept (kept_nothing 0)
    ∙ sym (no_more (λ (f : Formula). f.0) formulas (c.is_empty.ensures.empty (map (λ (f : Formula). f.0) formulas) c.requires c.if-is_empty.true))
