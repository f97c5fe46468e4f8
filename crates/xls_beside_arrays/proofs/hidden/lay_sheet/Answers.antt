use Rattle.xls_beside_arrays.proofs.LaidLemmas.{sheet-held}
use Rattle.xls_beside_arrays.proofs.hidden.lay_sheet.Goals as goal
use Rattle.xls_beside_arrays.specs.Hidden.{hidden_in, with_hidden}

pub returns-clause-ok : goal.returns-clause-ok
returns-clause-ok c = sheet-held with_hidden hidden_in c.in_ok-sheet.sheet c.in_ok-sheet.ensures.ok c.in_ok-lay_part.ensures.ok
