use Rattle.std.proofs.Common.{List, map, sym, ap, subst, ◌∙◌}
use Rattle.xls_range.specs.Positions.{IsAscending, Position}
use Rattle.xls_biff.specs.Cells.{CellEntry}
use Rattle.xls_view.proofs.FormatLemmas.{plain_positions}
use Rattle.xls_view.proofs.sheet.ViewSheet.cells.Goals as goal

pub returns-clause-ordered : goal.returns-clause-ordered
returns-clause-ordered c =
    subst (λ (ps : List Position). IsAscending ps)
    (sym (plain_positions c.in_ok-formatted.field-0) ∙ ap (map (λ (e : CellEntry). e.0)) (sym c.new.ensures)) c.in_ok-formatted.ensures.ordered
