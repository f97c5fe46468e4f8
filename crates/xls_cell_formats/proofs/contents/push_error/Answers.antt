use Rattle.std.proofs.lemmas.Str.{IsUtf8-string_bytes}
use Rattle.xls_cell_formats.proofs.TextLemmas.{gains_pushed}
use Rattle.xls_cell_formats.proofs.contents.push_error.Goals as goal

pub returns-clause-ok : goal.returns-clause-ok
returns-clause-ok c =
    gains_pushed c.push_str.result _ _ _ _ (IsUtf8-string_bytes c.args.buf.now) c.error_name.ensures c.push_str.ensures.bytes
