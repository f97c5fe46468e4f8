use Rattle.std.proofs.Common.{rules, ap, ◌∙◌}
use Rattle.xls_data.specs.Sheets.{sheet_content}
use Rattle.xls_output.specs.Output.{output_of}
use Rattle.xls_output.proofs.EachLemmas.{delivers-each, delivers-each-back, delivers-each-stop, each-as, each-stops-as}
use Rattle.xls_listing.specs.Listing.{sheet_line, sheet_lines}
use Rattle.xls_listing.proofs.DisplayedLemmas.{map_again}
use Rattle.xls_listing.proofs.sheets.write_sheet_list.Goals as goal

pub returns-in_err-put_sheets : goal.returns-in_err-put_sheets
returns-in_err-put_sheets g c =
    let r = c.from_residual in
    let none = ap g.F.Buffer.Gathers.kept c.new-out.ensures.kept ∙ c.buffer-buffer.ensures in
    delivers-each-back g.K.Sink.state (g.F.LineForm.is_text c.args.form.now) (sheet_lines c.args.view.now.book) r.result c.new-out.ensures.sink (search rules)
    (delivers-each-stop r.result r.ensures.1 none (each-stops-as c.in_err-put_sheets.ensures (map_again sheet_line sheet_content _ _ c.sheets.ensures)))

pub returns : goal.returns
returns g c =
    let none = ap g.F.Buffer.Gathers.kept c.new-out.ensures.kept ∙ c.buffer-buffer.ensures in
    delivers-each-back g.K.Sink.state (g.F.LineForm.is_text c.args.form.now) (sheet_lines c.args.view.now.book) c.finish.result c.new-out.ensures.sink (search rules)
    (delivers-each (output_of g.K.Sink.state g.F.Buffer.Gathers.kept c.finish.new.self) c.finish.result none (each-as c.in_ok-put_sheets.ensures (map_again sheet_line sheet_content _ _ c.sheets.ensures)) c.finish.ensures.puts c.finish.ensures.none)
