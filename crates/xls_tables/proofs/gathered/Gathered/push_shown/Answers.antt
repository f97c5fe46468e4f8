use Rattle.std.proofs.Common.{◌≡◌, ◌++◌, OnOk, rules}
use Rattle.std.proofs.lemmas.Str.{IsUtf8-string_bytes}
use Rattle.std.specs.String.{string_bytes}
use Rattle.xls_readable.specs.Csv.{csv_field}
use Rattle.xls_tables.proofs.FieldLemmas.{shown_added}
use Rattle.xls_tables.proofs.gathered.Gathered.push_shown.Goals as goal

pub returns : goal.returns
returns c =
    let room = string_bytes c.put_shown.new.room in
    let new = string_bytes c.push_text_field.new.buf in
    let appended : OnOk c.push_text_field.result (new ≡ c.args.self.now ++ csv_field c.args.delimiter room) = search rules in
    shown_added c.args.delimiter _ room c.args.self.now new c.push_text_field.result (IsUtf8-string_bytes c.put_shown.new.room)
    c.in_ok-put_shown.ensures appended
