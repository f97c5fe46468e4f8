use Rattle.xls_beside_arrays.proofs.LaidLemmas.{sheet-held}
use Rattle.xls_beside_arrays.proofs.comments.lay_sheet.Goals as goal
use Rattle.xls_beside_arrays.specs.Comments.{comments_in, with_comment}

pub returns-clause-ok : goal.returns-clause-ok
returns-clause-ok c = sheet-held with_comment comments_in c.in_ok-sheet.sheet c.in_ok-sheet.ensures.ok c.in_ok-lay_part.ensures.ok
