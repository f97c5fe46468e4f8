use Rattle.std.proofs.Common.{inl}
use Rattle.xls_csv.proofs.RowLemmas.{end_memory, end_put, puts_box_stop}
use Rattle.xls_csv.proofs.seen.put_seen_row.Goals as goal

pub returns-in_err-is_bare-clause-puts : goal.returns-in_err-is_bare-clause-puts
returns-in_err-is_bare-clause-puts g c =
    let (text, begins, stops) = c.in_err-is_bare.ensures.puts in
    puts_box_stop _ _ c.from_residual.result c.from_residual.ensures.1 (text, inl begins, stops)

pub returns-in_err-push_end-clause-puts : goal.returns-in_err-push_end-clause-puts
returns-in_err-push_end-clause-puts g c =
    let a = c.from_residual-in_err-push_end in
    puts_box_stop _ _ a.result a.ensures.1 (end_memory c.in_ok-is_bare.ensures.puts)

pub returns-clause-puts : goal.returns-clause-puts
returns-clause-puts g c = end_put c.in_ok-is_bare.ensures.puts c.in_ok-push_end.ensures
