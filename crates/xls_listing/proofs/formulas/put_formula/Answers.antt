use Rattle.xls_output.specs.Output.{output_of}
use Rattle.xls_output.proofs.EachLemmas.{puts-as}
use Rattle.xls_listing.proofs.DisplayedLemmas.{spelled_line}
use Rattle.xls_listing.proofs.formulas.put_formula.Goals as goal

pub returns : goal.returns
returns g c =
    let out = output_of g.K.Sink.state g.F.Buffer.Gathers.kept in
    puts-as (g.F.LineForm.is_text c.args.form.now) (out c.args.out.now) (out c.put_line.new.out) c.put_line.result
    (spelled_line (c.args.row, c.args.column) c.args.text.now c.utf8.text) c.put_line.ensures
