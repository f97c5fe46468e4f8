use Rattle.std.specs.String.{string_bytes}
use Rattle.xls_open.specs.Workbook.{name_texts}
use Rattle.xls_output.specs.Output.{output_of}
use Rattle.xls_output.proofs.EachLemmas.{puts-as}
use Rattle.xls_listing.proofs.DisplayedLemmas.{encoded_of, named_line}
use Rattle.xls_listing.proofs.listing.put_name.Goals as goal

pub returns : goal.returns
returns g c =
    let out = output_of g.K.Sink.state g.F.Buffer.Gathers.kept in
    let reported = c.args.name.now in
    let name = encoded_of c.as_str.result.now (string_bytes reported.0) c.as_str.utf8 c.as_str.ensures.value in
    let text = encoded_of c.as_str-2.result.now (string_bytes reported.1) c.as_str-2.utf8 c.as_str-2.ensures.value in
    puts-as (g.F.LineForm.is_text c.args.form.now) (out c.args.out.now) (out c.put_line.new.out) c.put_line.result
    (named_line _ _ (name_texts reported).0 (name_texts reported).1 name text) c.put_line.ensures
