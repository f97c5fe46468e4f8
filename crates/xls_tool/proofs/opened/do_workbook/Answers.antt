use Rattle.std.proofs.Common.{Ok, ◌∙◌, ap, sym}
use Rattle.xls_tool.proofs.FileLemmas.{locked, no-workbook, of-stream}
use Rattle.xls_tool.proofs.opened.do_workbook.Goals as goal

pub returns-in_err-stream-clause-written : goal.returns-in_err-stream-clause-written
returns-in_err-stream-clause-written g c out file opens =
    let r = c.from_residual in
    no-workbook c.args.answer.now c.args.job.now.reading file _ _ c.in_err-stream.field-0.0 r.result r.ensures.1 opens c.in_err-stream.ensures.err

pub returns-in_err-stream-2-clause-written : goal.returns-in_err-stream-2-clause-written
returns-in_err-stream-2-clause-written g c out file opens =
    let r = c.from_residual-in_err-stream-2 in
    locked c.args.answer.now c.args.job.now.reading file _ _ _ c.in_err-stream-2.field-0.0 r.result r.ensures.1 opens
    c.in_ok-stream.ensures.ok c.in_err-stream-2.ensures.err

pub returns-clause-written : goal.returns-clause-written
returns-clause-written g c out file opens =
    of-stream c.args.answer.now c.args.job.now.reading file _ _ _ _ _ c.write_answer.result opens
    c.in_ok-stream.ensures.ok (c.in_ok-stream-2.ensures.ok ∙ ap Ok (sym c.as_slice.ensures.value)) (c.write_answer.ensures.written out)
