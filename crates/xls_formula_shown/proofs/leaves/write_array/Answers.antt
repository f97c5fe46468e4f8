use Rattle.xls_formula_shown.proofs.WalkLemmas.{lends}
use Rattle.xls_formula_shown.proofs.leaves.write_array.Goals as goal

pub returns : goal.returns
returns c = lends _ _ c.push_array.result _ c.empty.ensures c.push_array.ensures.exact
