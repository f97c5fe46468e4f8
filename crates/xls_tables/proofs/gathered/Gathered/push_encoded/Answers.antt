use Rattle.std.proofs.Common.{◌≡◌, ◌++◌, IsUtf8, OnOk, ap, encode_utf8_all, rules, sym, ◌∙◌}
use Rattle.std.proofs.lemmas.Str.{encodes-chars}
use Rattle.std.specs.String.{string_bytes}
use Rattle.xls_readable.specs.Csv.{csv_field}
use Rattle.xls_tables.proofs.FieldLemmas.{text_added}
use Rattle.xls_tables.proofs.gathered.Gathered.push_encoded.Goals as goal

pub returns-in-Ok : goal.returns-in-Ok
returns-in-Ok c =
    let bytes = c.in-Ok.displayed.now in
    let utf8 : IsUtf8 bytes = search rules in
    let new = string_bytes c.push_text_field.new.buf in
    let appended : OnOk c.push_text_field.result (new ≡ c.args.self.now ++ csv_field c.args.delimiter bytes) = search rules in
    text_added c.args.delimiter _ bytes c.args.self.now new c.push_text_field.result
    (sym (encodes-chars bytes utf8) ∙ ap encode_utf8_all c.in-Ok.ensures) appended
