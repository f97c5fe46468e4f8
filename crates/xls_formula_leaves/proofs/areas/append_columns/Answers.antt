use Rattle.xls_bytes.proofs.GrownLemmas.{IsGrown-trans}
use Rattle.xls_formula_leaves.proofs.areas.append_columns.Goals as goal

pub returns-in_err-append_colon-clause-grown : goal.returns-in_err-append_colon-clause-grown
returns-in_err-append_colon-clause-grown c = IsGrown-trans _ _ _ c.append_column.ensures.grown c.append_colon.ensures.grown

pub returns-clause-grown : goal.returns-clause-grown
returns-clause-grown c = IsGrown-trans _ _ _ (IsGrown-trans _ _ _ c.append_column.ensures.grown c.append_colon.ensures.grown)
    c.append_column-2.ensures.grown
