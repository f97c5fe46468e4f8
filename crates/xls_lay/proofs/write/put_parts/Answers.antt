use Rattle.std.proofs.Common.{◌≡◌, get_or, rules}
use Rattle.xls_output.proofs.OutputLemmas.{puts-stop}
use Rattle.xls_lay.proofs.WriteLemmas.{parts_on_more, parts_on_stop}
use Rattle.xls_lay.proofs.write.put_parts.Goals as goal

pub returns-in_err-put_part : goal.returns-in_err-put_part
returns-in_err-put_part g c =
    let l = c.loop-entry in
    let e = c.entry-item.result in
    let here : get_or c.args.entries.now l.entry-index e ≡ e = search (rules, c.entry-item.is) in
    puts-stop c.from_residual.result c.from_residual.ensures.1
    (parts_on_stop c.args.entries.now l.entry-index l.invariant e c.loop-entry-test.true here c.in_err-put_part.ensures)

pub loop-entry-preserved : goal.loop-entry-preserved
loop-entry-preserved g c =
    let l = c.loop-entry in
    let e = c.entry-item.result in
    let here : get_or c.args.entries.now l.entry-index e ≡ e = search (rules, c.entry-item.is) in
    parts_on_more c.args.entries.now l.entry-index l.invariant e c.loop-entry-test.true here c.in_ok-put_part.ensures
