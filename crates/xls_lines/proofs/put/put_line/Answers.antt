use Rattle.std.proofs.Common.{append_assoc, codes}
use Rattle.xls_output.proofs.OutputLemmas.{gathers-as, gathers-then, puts-stop, stops-as, stops-more, stops-then}
use Rattle.xls_lines.proofs.put.put_line.Goals as goal

pub returns-in_err-put_str : goal.returns-in_err-put_str
returns-in_err-put_str g c =
    puts-stop c.from_residual.result c.from_residual.ensures.1 (stops-more _ c.in_err-put_str.ensures)

pub returns-in_err-put_fields : goal.returns-in_err-put_fields
returns-in_err-put_fields g c =
    let a = c.from_residual-in_err-put_fields in
    puts-stop a.result a.ensures.1 (stops-as (stops-more (codes "\n") (stops-then c.in_ok-put_str.ensures c.in_err-put_fields.ensures)) (append_assoc c.args.word.now _ (codes "\n")))

pub returns-in_err-put_str-2 : goal.returns-in_err-put_str-2
returns-in_err-put_str-2 g c =
    let a = c.from_residual-in_err-put_str-2 in
    puts-stop a.result a.ensures.1 (stops-as (stops-then (gathers-then c.in_ok-put_str.ensures c.in_ok-put_fields.ensures) c.in_err-put_str-2.ensures) (append_assoc c.args.word.now _ (codes "\n")))

pub returns : goal.returns
returns g c =
    gathers-as (gathers-then (gathers-then c.in_ok-put_str.ensures c.in_ok-put_fields.ensures) c.in_ok-put_str-2.ensures) (append_assoc c.args.word.now _ (codes "\n"))
