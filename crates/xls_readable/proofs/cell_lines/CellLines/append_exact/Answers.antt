use Rattle.std.proofs.Common.{arith}
use Rattle.xls_readable.specs.Items.{item_of}
use Rattle.xls_readable.proofs.CellLemmas.{exact_cell_line}
use Rattle.xls_readable.proofs.cell_lines.CellLines.append_exact.Goals as goal

pub returns-clause-ok : goal.returns-clause-ok
returns-clause-ok c =
    exact_cell_line c.args.position.0 c.args.position.1 c.args.kind.now (item_of c.args.field.now) _ _ _ _ c.in_ok-append_head.ensures.ok c.in_ok-push_exact_item.ensures.ok
    (rw (c.in_ok-push.ensures.ascii (omega arith)) at c.in_ok-push.ensures.bytes)
