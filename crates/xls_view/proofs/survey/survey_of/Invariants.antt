use Rattle.std.proofs.Common.{◌≡◌, ◌++◌, List}
use Rattle.xls_data.specs.declared.regions.Dimensions.{Dimensions}
use Rattle.xls_biff.specs.Cells.{CellEntry}
use Rattle.xls_view.specs.SheetContents.{cells_after, kept_in, regions_of}
use Rattle.xls_view.specs.Formulas.{Formula, formulas_kept}
use Rattle.xls_view.specs.Surveying.{IsSurvey}
use Rattle.xls_view.specs.Walking.{IsSoundPart}
use Rattle.xls_view.proofs.survey.survey_of.Given as goal

-- these are those of the records so far, and with those of the records that are left they are all
abbrev pub invariant-loop-item : goal.invariant-loop-item
invariant-loop-item l =
    (goal.iterator-loop-item).can_next l.item-iterator ×
    (goal.iterator-loop-item).is_finite l.item-iterator ×
    IsSoundPart l.settings l.item-iterator ×
    (es : List CellEntry) × (fs : List Formula) × (rs : List Dimensions) × IsSurvey (record { cells = l.passed.cells; formulas = l.formulas; merges = l.passed.merges }) es fs rs ×
    (es ++ cells_after l.settings l.last (kept_in l.item-iterator.0 l.item-iterator.1) ≡ cells_after l.settings (0, 0) (kept_in l.part 0)) ×
    (fs ++ formulas_kept (kept_in l.item-iterator.0 l.item-iterator.1) ≡ formulas_kept (kept_in l.part 0)) ×
    (rs ++ regions_of (kept_in l.item-iterator.0 l.item-iterator.1) ≡ regions_of (kept_in l.part 0))
