use Rattle.std.proofs.Common.{List, map, subst, sym, ap, ◌∙◌}
use Rattle.xls_range.specs.Positions.{IsAscending, Position}
use Rattle.xls_biff.specs.Cells.{CellEntry}
use Rattle.xls_view.specs.Formats.{formatted_after, no_formula}
use Rattle.xls_view.specs.SheetContents.{kept_in}
use Rattle.xls_view.proofs.FormatLemmas.{plain_after, plain_positions}
use Rattle.xls_view.proofs.SettledLemmas.{settled_same}
use Rattle.xls_view.proofs.formatted.order_of.Goals as goal

pub returns-then-ascends : goal.returns-then-ascends
returns-then-ascends c =
    let s = c.args.settings.now in
    let kept = kept_in c.args.part.now 0 in
    let cells = formatted_after s no_formula kept in
    settled_same cells (subst (λ (ps : List Position). IsAscending ps)
    (ap (map (λ (e : CellEntry). e.0)) (sym (plain_after s no_formula kept)) ∙ plain_positions cells)
    (c.requires.found.ascent.order (c.ascends.ensures.0 c.if-ascends.true)))
