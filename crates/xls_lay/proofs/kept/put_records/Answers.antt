use Rattle.std.proofs.Common.{rules}
use Rattle.xls_output.proofs.OutputLemmas.{puts-stop}
use Rattle.xls_lay.proofs.InsideLemmas.{kept_on_more, kept_on_none, kept_on_stop}
use Rattle.xls_lay.proofs.kept.put_records.Goals as goal

pub loop-head-init : goal.loop-head-init
loop-head-init g c = kept_on_none _ c.args.heads.now c.args.bytes.now c.requires

pub returns-in_err-put_first : goal.returns-in_err-put_first
returns-in_err-put_first g c =
    let l = c.loop-head in
    puts-stop c.from_residual.result c.from_residual.ensures.1
    (kept_on_stop c.args.heads.now c.args.bytes.now l.rest.now l.head-index l.invariant _ c.loop-head-test.true (search rules) c.in_err-put_first.ensures)

pub loop-head-preserved : goal.loop-head-preserved
loop-head-preserved g c =
    let l = c.loop-head in
    rw c.after_first-rest.ensures
    (kept_on_more c.args.heads.now c.args.bytes.now l.rest.now l.head-index l.invariant _ c.loop-head-test.true (search rules) c.in_ok-put_first.ensures)
