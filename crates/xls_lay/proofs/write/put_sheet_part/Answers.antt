use Rattle.xls_output.proofs.OutputLemmas.{gathers-then, puts-stop, stops-more, stops-then}
use Rattle.xls_lay.specs.Cutting.{eof_bytes}
use Rattle.xls_lay.proofs.write.put_sheet_part.Goals as goal

pub returns-in_err-put_record : goal.returns-in_err-put_record
returns-in_err-put_record g c =
    puts-stop c.from_residual.result c.from_residual.ensures.1
    (stops-more _ c.in_err-put_record.ensures)

pub returns-in_err-put : goal.returns-in_err-put
returns-in_err-put g c =
    let a = c.from_residual-in_err-put in
    puts-stop a.result a.ensures.1 (stops-then c.in_ok-put_record.ensures (stops-more eof_bytes c.in_err-put.ensures))

pub returns-in_err-put_record-2 : goal.returns-in_err-put_record-2
returns-in_err-put_record-2 g c =
    let a = c.from_residual-in_err-put_record-2 in
    puts-stop a.result a.ensures.1 (stops-then c.in_ok-put_record.ensures (stops-then c.in_ok-put.ensures c.in_err-put_record-2.ensures))

pub returns : goal.returns
returns g c = gathers-then c.in_ok-put_record.ensures (gathers-then c.in_ok-put.ensures c.in_ok-put_record-2.ensures)
