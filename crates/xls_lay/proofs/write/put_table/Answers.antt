use Rattle.xls_output.proofs.OutputLemmas.{puts-stop}
use Rattle.xls_lay.proofs.WriteLemmas.{table_put, table_stop, table_unfinished}
use Rattle.xls_lay.proofs.write.put_table.Goals as goal

pub returns-in_err-put : goal.returns-in_err-put
returns-in_err-put g c =
    let new = c.in_ok-table.ensures in
    let a = c.from_residual-in_err-put in
    puts-stop a.result a.ensures.1
    (table_stop _ c.args.strings.now _ c.in_ok-table.table c.len.ensures new.typ new.body c.in_err-put.ensures.puts)

pub returns-in_err-finish : goal.returns-in_err-finish
returns-in_err-finish g c =
    let new = c.in_ok-table.ensures in
    let a = c.from_residual-in_err-finish in
    puts-stop a.result a.ensures.1
    (table_unfinished _ c.args.strings.now _ c.in_ok-table.table c.len.ensures new.typ new.body c.put.new.table c.in_ok-put.ensures.puts c.in_err-finish.ensures)

pub returns : goal.returns
returns g c =
    let new = c.in_ok-table.ensures in
    table_put _ c.args.strings.now _ c.in_ok-table.table c.len.ensures new.typ new.body c.put.new.table c.in_ok-put.ensures.puts c.in_ok-finish.ensures
