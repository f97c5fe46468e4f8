use Rattle.std.proofs.Common.{rules}
use Rattle.xls_bytes.proofs.GrownLemmas.{IsGrown-split}
use Rattle.xls_formula_leaves.proofs.words.push_int.Goals as goal

pub truncate-requires : goal.truncate-requires
truncate-requires c = λ _. IsGrown-split _ _ _ c.append_decimal-done.ensures.grown (search rules)
