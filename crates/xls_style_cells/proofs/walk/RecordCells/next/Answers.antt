use Rattle.std.proofs.Common.{◌∷◌, ◌+◌, sym, ap, ◌∙◌, arith}
use Rattle.xls_parts.specs.PartRecords.{placed_of}
use Rattle.xls_style_cells.specs.Cells.{Cell, with_style}
use Rattle.xls_style_cells.proofs.WalkLemmas.{cell_more, cells_from}
use Rattle.xls_style_cells.proofs.walk.RecordCells.next.Goals as goal

pub returns : goal.returns
returns c =
    let s = c.self.inside in
    let r = placed_of s.cited in
    sym c.self.view_is
    ∙ cell_more s.version r s.next s.count (omega (arith, c.self.invariant.0, c.if-self.false))
    ∙ ap (λ (x : Cell). x ∷ cells_from s.version r (s.next + 1) s.count)
    (ap (with_style s.version r) (sym c.position_in-position.ensures) ∙ sym c.cell_at-cell.ensures)
