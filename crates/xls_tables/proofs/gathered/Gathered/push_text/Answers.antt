use Rattle.std.proofs.Common.{◌≡◌, ◌++◌, OnOk, rules, sym}
use Rattle.std.proofs.lemmas.Str.{encodes-chars}
use Rattle.std.specs.Str.{chars}
use Rattle.std.specs.String.{string_bytes}
use Rattle.xls_readable.specs.Csv.{csv_field}
use Rattle.xls_tables.proofs.FieldLemmas.{text_added}
use Rattle.xls_tables.proofs.gathered.Gathered.push_text.Goals as goal

pub returns : goal.returns
returns c =
    let bytes = c.args.displayed.now in
    let new = string_bytes c.push_text_field.new.buf in
    let appended : OnOk c.push_text_field.result (new ≡ c.args.self.now ++ csv_field c.args.delimiter bytes) = search rules in
    text_added c.args.delimiter (chars bytes) bytes c.args.self.now new c.push_text_field.result (sym (encodes-chars bytes c.utf8.displayed)) appended
