use Rattle.std.proofs.Common.{sym, ◌∙◌}
use Rattle.xls_readable.proofs.JsonLemmas.{escape_byte-plain}
use Rattle.xls_readable.proofs.json_lines.stands_for_itself.Goals as goal

pub returns-clause-plain : goal.returns-clause-plain
returns-clause-plain c = λ e. escape_byte-plain c.args.byte (sym c.is_plain.ensures ∙ e)
