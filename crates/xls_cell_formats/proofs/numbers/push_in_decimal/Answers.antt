use Rattle.std.proofs.lemmas.Str.{IsUtf8-string_bytes}
use Rattle.xls_cell_formats.proofs.TextLemmas.{gains_decimal}
use Rattle.xls_cell_formats.proofs.numbers.push_in_decimal.Goals as goal

pub returns-clause-ok : goal.returns-clause-ok
returns-clause-ok c = gains_decimal c.args.number c.push_decimal.result _ _ (IsUtf8-string_bytes c.args.text.now) c.push_decimal.ensures.ok
