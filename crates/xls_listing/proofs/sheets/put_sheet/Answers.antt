use Rattle.std.specs.String.{string_bytes}
use Rattle.xls_data.specs.Sheets.{sheet_content}
use Rattle.xls_output.specs.Output.{output_of}
use Rattle.xls_output.proofs.EachLemmas.{puts-as}
use Rattle.xls_listing.proofs.DisplayedLemmas.{encoded_of, sheet_named_line}
use Rattle.xls_listing.proofs.sheets.put_sheet.Goals as goal

pub returns : goal.returns
returns g c =
    let out = output_of g.K.Sink.state g.F.Buffer.Gathers.kept in
    let sheet = c.args.sheet.now in
    let name = encoded_of c.as_str.result.now (string_bytes sheet.name) c.as_str.utf8 c.as_str.ensures.value in
    puts-as (g.F.LineForm.is_text c.args.form.now) (out c.args.out.now) (out c.put_line.new.out) c.put_line.result
    (sheet_named_line _ (sheet_content sheet) name) c.put_line.ensures
