use Rattle.xls_readable.proofs.lines.push_sheet.Goals as goal

pub returns-clause-ok : goal.returns-clause-ok
returns-clause-ok c = rw (c.text_member-name.ensures, c.type_word.ensures, c.visible_word.ensures) at c.push_line.ensures.ok
