use Rattle.xls_output.proofs.OutputLemmas.{gathers-then, puts-stop, stops-more, stops-then}
use Rattle.xls_lines.proofs.put.put_field.Goals as goal

pub returns-in_err-put_str : goal.returns-in_err-put_str
returns-in_err-put_str g c =
    puts-stop c.from_residual.result c.from_residual.ensures.1 (stops-more _ c.in_err-put_str.ensures)

pub returns-in_err-put_value : goal.returns-in_err-put_value
returns-in_err-put_value g c =
    let a = c.from_residual-in_err-put_value in
    puts-stop a.result a.ensures.1 (stops-then c.in_ok-put_str.ensures c.in_err-put_value.ensures)

pub returns : goal.returns
returns g c = gathers-then c.in_ok-put_str.ensures c.in_ok-put_value.ensures
