use Rattle.std.proofs.Common.{ap, sym, ◌∙◌}
use Rattle.std.specs.Option.{option_map}
use Rattle.xls_view.specs.Displayed.{sheet_view_of}
use Rattle.xls_output.specs.Output.{output_of}
use Rattle.xls_listing.specs.Listing.{lines_of_formulas, displayed_at}
use Rattle.xls_output.proofs.EachLemmas.{each-as, each-none, puts-as}
use Rattle.xls_listing.proofs.formulas.put_formulas_at.Goals as goal

pub returns-in-Some : goal.returns-in-Some
returns-in-Some g c =
    let out = output_of g.K.Sink.state g.F.Buffer.Gathers.kept in
    puts-as (g.F.LineForm.is_text c.args.form.now) (out c.args.out.now) (out c.put_displayed_formulas.new.out) c.put_displayed_formulas.result
    (ap (displayed_at lines_of_formulas) (ap (option_map sheet_view_of) (sym c.in-Some.is) ∙ c.sheet_at.ensures.content)) c.put_displayed_formulas.ensures

pub returns-in-None : goal.returns-in-None
returns-in-None g c =
    each-as (each-none (g.F.LineForm.is_text c.args.form.now) _)
    (ap (displayed_at lines_of_formulas) (ap (option_map sheet_view_of) (sym c.in-None.is) ∙ c.sheet_at.ensures.content))
