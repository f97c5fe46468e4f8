use Rattle.std.proofs.Common.{rules}
use Rattle.xls_bytes.proofs.GrownLemmas.{IsGrown-split}
use Rattle.xls_shown.proofs.formats.ShownFormat.push.Goals as goal

pub truncate-requires : goal.truncate-requires
truncate-requires c = λ _. IsGrown-split _ _ _ c.append-done.ensures.grown (search rules)
