use Rattle.std.proofs.Common.{◌∙◌, sym}
use Rattle.xls_tool.proofs.FileLemmas.{by-answer, by-beside}
use Rattle.xls_tool.proofs.opened.do_opened.Goals as goal

pub returns-in-Workbook-clause-written : goal.returns-in-Workbook-clause-written
returns-in-Workbook-clause-written g c out file opens =
    by-answer c.in-Workbook.answer c.args.job.now.request.command c.args.job.now.reading file _ _ c.do_workbook.result
    (sym c.asked_by.ensures.exact ∙ c.in-Workbook.is) (c.do_workbook.ensures.written out file opens)

pub returns-in-Other-clause-written : goal.returns-in-Other-clause-written
returns-in-Other-clause-written g c out file opens =
    by-beside c.in-Other.beside c.args.job.now.request.command c.args.job.now.reading file _ _ _ c.do_beside.result
    (sym c.asked_by.ensures.exact ∙ c.in-Other.is) opens (c.do_beside.ensures.written out)
