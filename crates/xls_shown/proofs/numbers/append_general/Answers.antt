use Rattle.xls_bytes.proofs.GrownLemmas.{IsGrown-trans}
use Rattle.xls_shown.proofs.numbers.append_general.Goals as goal

pub returns-clause-grown : goal.returns-clause-grown
returns-clause-grown c = IsGrown-trans _ _ _ c.append_sign.ensures.grown c.append_size.ensures.grown
