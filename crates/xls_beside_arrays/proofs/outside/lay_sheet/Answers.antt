use Rattle.xls_beside_arrays.proofs.LaidLemmas.{sheet-held}
use Rattle.xls_beside_arrays.proofs.outside.lay_sheet.Goals as goal
use Rattle.xls_beside_arrays.specs.Outside.{outside_in, with_outside}

pub returns-clause-ok : goal.returns-clause-ok
returns-clause-ok c = sheet-held with_outside outside_in c.in_ok-sheet.sheet c.in_ok-sheet.ensures.ok c.in_ok-lay_part.ensures.ok
