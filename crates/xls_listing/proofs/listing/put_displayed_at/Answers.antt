use Rattle.std.proofs.Common.{ap, sym, ◌∙◌}
use Rattle.std.specs.Option.{option_map}
use Rattle.xls_view.specs.Displayed.{DisplayedSheet, sheet_view_of}
use Rattle.xls_output.specs.Output.{output_of}
use Rattle.xls_listing.specs.Listing.{lines_of_sheet, displayed_at}
use Rattle.xls_output.proofs.EachLemmas.{each-as, each-none, puts-as}
use Rattle.xls_listing.proofs.ReadingLemmas.{no_sheet_at, sheet_at}
use Rattle.xls_listing.proofs.listing.put_displayed_at.Goals as goal

pub returns-in-Some : goal.returns-in-Some
returns-in-Some g c =
    let out = output_of g.K.Sink.state g.F.Buffer.Gathers.kept in
    let view = c.args.view.now in
    let content = sym c.sheet_at.ensures.content ∙ ap (option_map sheet_view_of) c.in-Some.is in
    let cells = sym c.sheet_at.ensures.formatted ∙ ap (option_map (λ (s : DisplayedSheet). s.formatted)) c.in-Some.is in
    puts-as (g.F.LineForm.is_text c.args.form.now) (out c.args.out.now) (out c.put_displayed.new.out) c.put_displayed.result
    (ap (displayed_at lines_of_sheet) (sym (sheet_at c.args.reader.now view.book.contents view.formatted c.args.n _ _ content cells))) c.put_displayed.ensures

pub returns-in-None : goal.returns-in-None
returns-in-None g c =
    let view = c.args.view.now in
    let content = sym c.sheet_at.ensures.content ∙ ap (option_map sheet_view_of) c.in-None.is in
    each-as (each-none (g.F.LineForm.is_text c.args.form.now) _)
    (ap (displayed_at lines_of_sheet) (sym (no_sheet_at c.args.reader.now view.book.contents view.formatted c.args.n content)))
