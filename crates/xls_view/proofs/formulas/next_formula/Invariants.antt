use Rattle.std.proofs.Common.{◌≡◌}
use Rattle.xls_stream.specs.Walks.{IsBytes}
use Rattle.xls_view.specs.SheetContents.{kept_in}
use Rattle.xls_view.specs.Formulas.{formulas_kept}
use Rattle.xls_view.proofs.formulas.next_formula.Given as goal

-- the records that were passed are no formulas
abbrev pub invariant-loop-item : goal.invariant-loop-item
invariant-loop-item l =
    (goal.iterator-loop-item).can_next l.records ×
    (goal.iterator-loop-item).is_finite l.records ×
    IsBytes l.records.0 ×
    (formulas_kept (kept_in l.fn.records.0 l.fn.records.1) ≡ formulas_kept (kept_in l.records.0 l.records.1))
