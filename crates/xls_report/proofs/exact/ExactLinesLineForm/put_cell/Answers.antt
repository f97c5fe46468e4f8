use Rattle.xls_output.specs.Output.{output}
use Rattle.xls_report.proofs.ExactLemmas.{puts-cell}
use Rattle.xls_report.proofs.exact.ExactLinesLineForm.put_cell.Goals as goal

pub returns : goal.returns
returns g c = λ shown _.
    let out = output g.K.Sink.state in
    puts-cell c.args.position _ shown _ (out c.args.out.now) (out c.put_cell.new.out) c.put_cell.result c.exact_field.ensures c.put_cell.ensures
