use Rattle.xls_bytes.proofs.GrownLemmas.{IsGrown-trans}
use Rattle.xls_formula_leaves.proofs.arrays.append_value.Goals as goal

pub returns-clause-grown : goal.returns-clause-grown
returns-clause-grown c = IsGrown-trans _ _ _ c.append_text.ensures.grown c.append_ser.ensures.grown
