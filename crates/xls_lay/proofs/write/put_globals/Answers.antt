use Rattle.std.proofs.Common.{◌≡◌, ◌+◌, arith, get_or, rules}
use Rattle.xls_lay.specs.Cutting.{part_size}
use Rattle.xls_lay.specs.Entries.{entry_in}
use Rattle.xls_output.proofs.OutputLemmas.{puts-stop}
use Rattle.xls_lay.proofs.WriteLemmas.{globals_on_eof, globals_on_more, globals_on_none, globals_on_stop, on_size}
use Rattle.xls_lay.proofs.write.put_globals.Goals as goal

pub loop-entry-init : goal.loop-entry-init
loop-entry-init g c = globals_on_none _ c.args.offset c.args.entries.now c.requires.fits c.requires.short

pub returns-in_err-put_entry : goal.returns-in_err-put_entry
returns-in_err-put_entry g c =
    let l = c.loop-entry in
    let e = c.entry-item.result in
    let here : get_or c.args.entries.now l.entry-index e ≡ e = search (rules, c.entry-item.is) in
    puts-stop c.from_residual.result c.from_residual.ensures.1
    (globals_on_stop c.args.offset l.offset c.args.entries.now l.entry-index l.invariant e c.loop-entry-test.true here c.in_err-put_entry.ensures)

pub loop-entry-preserved : goal.loop-entry-preserved
loop-entry-preserved g c =
    let l = c.loop-entry in
    let e = c.entry-item.result in
    let here : get_or c.args.entries.now l.entry-index e ≡ e = search (rules, c.entry-item.is) in
    let small = on_size c.args.offset l.offset c.args.entries.now l.entry-index l.invariant e c.loop-entry-test.true here in
    let next : l.offset + c.part_size-offset.result ≡ l.offset + part_size (entry_in e) = omega (arith, small, c.part_size-offset.ensures) in
    globals_on_more c.args.offset l.offset c.args.entries.now l.entry-index l.invariant e _ c.loop-entry-test.true here c.in_ok-put_entry.ensures next

pub returns : goal.returns
returns g c =
    globals_on_eof c.args.offset c.loop-entry.offset c.args.entries.now c.loop-entry.entry-index c.loop-entry.invariant _ c.put_record.result c.loop-entry-test.false c.put_record.ensures
