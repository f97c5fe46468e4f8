use Rattle.std.proofs.Common.{rules}
use Rattle.xls_bytes.proofs.GrownLemmas.{IsGrown-split}
use Rattle.xls_readable.proofs.delimited.push_quoted.Goals as goal

pub truncate-requires : goal.truncate-requires
truncate-requires c = λ _. IsGrown-split _ _ _ c.append_quoted-done.ensures.grown (search rules)
