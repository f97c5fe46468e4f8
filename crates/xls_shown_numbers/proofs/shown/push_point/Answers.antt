use Rattle.xls_bytes.proofs.GrownLemmas.{IsGrown-trans}
use Rattle.xls_shown_numbers.proofs.shown.push_point.Goals as goal

pub returns-clause-grown : goal.returns-clause-grown
returns-clause-grown c = IsGrown-trans _ _ _ c.push_whole_part.ensures.grown c.push_own.ensures.grown
