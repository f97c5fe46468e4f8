use Rattle.xls_bytes.proofs.GrownLemmas.{IsGrown-trans}
use Rattle.xls_formula_leaves.proofs.strings.append_quoted.Goals as goal

pub returns-in_err-append_doubled-clause-grown : goal.returns-in_err-append_doubled-clause-grown
returns-in_err-append_doubled-clause-grown c = IsGrown-trans _ _ _ c.append_quote.ensures.grown c.append_doubled.ensures.grown

pub returns-clause-grown : goal.returns-clause-grown
returns-clause-grown c = IsGrown-trans _ _ _ (IsGrown-trans _ _ _ c.append_quote.ensures.grown c.append_doubled.ensures.grown)
    c.append_quote-2.ensures.grown
