use Rattle.xls_readable.proofs.cell_lines.push_shown_cell.Goals as goal

pub returns-clause-ok : goal.returns-clause-ok
returns-clause-ok c = rw (c.from.ensures, c.from-2.ensures, c.again.ensures) at c.push_line.ensures.ok
