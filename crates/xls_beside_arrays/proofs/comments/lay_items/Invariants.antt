use Rattle.xls_beside_arrays.proofs.LaidLemmas.{IsPartly}
use Rattle.xls_beside_arrays.proofs.comments.lay_items.Given as goal
use Rattle.xls_beside_arrays.specs.Comments.{with_comment}

-- the comments so far are laid
abbrev pub invariant-loop-next : goal.invariant-loop-next
invariant-loop-next l = IsPartly with_comment l.fn.comments l.next-iterator l.fn.rooms l.rooms
