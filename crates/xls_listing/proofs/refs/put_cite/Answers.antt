use Rattle.std.proofs.Common.{◌∙◌, ap, encode_utf8_all}
use Rattle.std.specs.Str.{chars}
use Rattle.xls_output.specs.Output.{output_of}
use Rattle.xls_output.proofs.EachLemmas.{puts-as}
use Rattle.xls_listing.specs.Listing.{area}
use Rattle.xls_listing.proofs.DisplayedLemmas.{cited_named_line, encoded, encoded_of}
use Rattle.xls_listing.proofs.refs.put_cite.Goals as goal

pub returns : goal.returns
returns g c =
    let out = output_of g.K.Sink.state g.F.Buffer.Gathers.kept in
    let cite = c.args.cite in
    let name = encoded c.name_of-name.result.now c.name_of-name.utf8 ∙ ap encode_utf8_all c.name_of-name.ensures in
    let sheet = encoded_of c.sheet_of-sheet.result.now cite.on.now c.sheet_of-sheet.utf8 c.sheet_of-sheet.ensures in
    puts-as (g.F.LineForm.is_text c.args.form.now) (out c.args.out.now) (out c.put_line.new.out) c.put_line.result
    (cited_named_line _ _ _ (chars cite.on.now) (cite.row, cite.col) (area cite.first cite.last) name sheet) c.put_line.ensures
