use Rattle.std.proofs.Common.{refl, ap, sym, ◌∙◌}
use Rattle.std.specs.Option.{option_map}
use Rattle.xls_meaning.specs.SheetTable.{listed_cell}
use Rattle.xls_view.specs.Values.{bare_entry}
use Rattle.xls_view.proofs.SurveyLemmas.{at_position}
use Rattle.xls_view.proofs.survey.other_place.Goals as goal

pub returns-in-Some : goal.returns-in-Some
returns-in-Some c = λ none.
    let one = ap (λ o. listed_cell (option_map bare_entry o)) (sym c.in-Some.is) ∙ c.single_cell.ensures none in
    at_position _ _ (bare_entry c.in-Some.cell) refl one
