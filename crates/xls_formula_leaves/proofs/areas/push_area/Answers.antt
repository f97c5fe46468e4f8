use Rattle.std.proofs.Common.{rules}
use Rattle.xls_bytes.proofs.GrownLemmas.{IsGrown-split}
use Rattle.xls_formula_leaves.proofs.areas.push_area.Goals as goal

pub truncate-requires : goal.truncate-requires
truncate-requires c = λ _. IsGrown-split _ _ _ c.append_area-done.ensures.grown (search rules)
