use Rattle.xls_readable.proofs.lines.push_ref.Goals as goal

pub returns-clause-ok : goal.returns-clause-ok
returns-clause-ok c =
    rw (c.text_member.ensures, c.text_member-2.ensures, c.count_member.ensures, c.count_member-2.ensures, c.count_member-3.ensures, c.count_member-4.ensures, c.count_member-5.ensures, c.count_member-6.ensures) at c.push_line.ensures.ok
