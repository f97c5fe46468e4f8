use Rattle.std.proofs.Common.{ap, map}
use Rattle.xls_meaning.specs.SheetTable.{nonempty_formulas}
use Rattle.xls_view.specs.Formulas.{text_entry}
use Rattle.xls_view.specs.Walking.{NamedContext}
use Rattle.xls_output.specs.Output.{output_of}
use Rattle.xls_listing.specs.Listing.{formula_line}
use Rattle.xls_output.proofs.EachLemmas.{puts-as, puts-memory}
use Rattle.xls_listing.proofs.formulas.put_displayed_formulas.Goals as goal

pub returns-in_err-formulas : goal.returns-in_err-formulas
returns-in_err-formulas g c = puts-memory (g.F.LineForm.is_text c.args.form.now) _ _ _ _ _ c.from_residual.result c.from_residual.ensures.1

pub returns : goal.returns
returns g c =
    let out = output_of g.K.Sink.state g.F.Buffer.Gathers.kept in
    puts-as (g.F.LineForm.is_text c.args.form.now) (out c.args.out.now) (out c.put_formulas.new.out) c.put_formulas.result
    (ap (λ (f : NamedContext). map formula_line (nonempty_formulas (map (text_entry f.context) f.left))) c.in_ok-formulas.ensures) c.put_formulas.ensures
