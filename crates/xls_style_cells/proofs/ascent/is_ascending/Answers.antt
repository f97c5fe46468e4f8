use Rattle.std.proofs.Common.{List, map, sym, ap, ◌∙◌, None}
use Rattle.xls_style_cells.specs.Cells.{Cell, cell_position}
use Rattle.xls_style_cells.specs.Order.{ascends}
use Rattle.xls_style_cells.proofs.SettledLemmas.{ascends_less, ascends_more}
use Rattle.xls_style_cells.proofs.ascent.is_ascending.Goals as goal

pub cells-init : goal.cells-init
cells-init c = (tt, tt, ap (λ (cs : List Cell). ascends None (map cell_position cs)) (sym c.into_iter-cell-iterator.ensures.into_iter_gives))

pub returns-then-not-follows : goal.returns-then-not-follows
returns-then-not-follows c =
    let l = c.cells in
    sym (l.invariant.2 ∙ ap (λ (cs : List Cell). ascends l.last (map cell_position cs)) c.in-Some.ensures.steps
    ∙ ascends_less l.last (c.in-Some.cell.row, c.in-Some.cell.column) (map cell_position c.next.new.self) (sym c.if-not-follows.ensures))

pub cells-preserved : goal.cells-preserved
cells-preserved c =
    let l = c.cells in (
      tt,
      tt,
      l.invariant.2 ∙ ap (λ (cs : List Cell). ascends l.last (map cell_position cs)) c.in-Some.ensures.steps
          ∙ ascends_more l.last (c.in-Some.cell.row, c.in-Some.cell.column) (map cell_position c.next.new.self) (sym c.if-not-follows.ensures),
    )

pub returns : goal.returns
returns c =
    let l = c.cells in
    sym (l.invariant.2 ∙ ap (λ (cs : List Cell). ascends l.last (map cell_position cs)) c.in-None.ensures.steps.0)
