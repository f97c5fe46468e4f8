use Rattle.std.proofs.Common.{rules}
use Rattle.xls_bytes.proofs.GrownLemmas.{IsGrown-split}
use Rattle.xls_bytes.proofs.EscapeLemmas.{escaped_text-chars}
use Rattle.xls_bytes.proofs.escapes.push_escaped.Goals as goal

pub truncate-requires : goal.truncate-requires
truncate-requires c = λ _. IsGrown-split _ _ _ c.append_escaped-done.ensures.grown (search rules)

pub returns-else-is_err-clause-ok : goal.returns-else-is_err-clause-ok
returns-else-is_err-clause-ok c = rw (escaped_text-chars c.args.text.now c.utf8.text) c.append_escaped-done.ensures.ok
