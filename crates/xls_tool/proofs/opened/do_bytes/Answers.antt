use Rattle.xls_tool.proofs.FileLemmas.{not-opened}
use Rattle.xls_tool.proofs.opened.do_bytes.Goals as goal

pub returns-in_err-container-clause-written : goal.returns-in_err-container-clause-written
returns-in_err-container-clause-written g c out =
    not-opened c.args.job.now.request.command c.args.job.now.reading c.args.bytes.now _ c.in_err-container.field-0.0
    c.from_residual.result c.from_residual.ensures.1 c.in_err-container.ensures.err

pub returns-clause-written : goal.returns-clause-written
returns-clause-written g c out = c.do_opened.ensures.written out c.args.bytes.now c.in_ok-container.ensures.ok
