use Rattle.std.proofs.Common.{List, map, sym, ap, ◌∙◌, None}
use Rattle.xls_parts.specs.PartRecords.{own_records}
use Rattle.xls_style_cells.specs.Cells.{Cell, cell_position, cells_in}
use Rattle.xls_style_cells.specs.Order.{ascends}
use Rattle.xls_style_cells.proofs.SettledLemmas.{passed, settled_same}
use Rattle.xls_style_cells.proofs.cells.order_of.Goals as goal

pub returns-then-is_ascending : goal.returns-then-is_ascending
returns-then-is_ascending c =
    let cells = cells_in c.args.version (own_records 0 c.args.part.now) in
    settled_same cells (passed (map cell_position cells)
    (ap (λ (cs : List Cell). ascends None (map cell_position cs)) (sym c.new.ensures) ∙ sym c.if-is_ascending.ensures))
