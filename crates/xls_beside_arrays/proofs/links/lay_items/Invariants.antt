use Rattle.xls_beside_arrays.proofs.LaidLemmas.{IsPartly}
use Rattle.xls_beside_arrays.proofs.links.lay_items.Given as goal
use Rattle.xls_beside_arrays.specs.Links.{with_link}

-- the links so far are laid
abbrev pub invariant-loop-next : goal.invariant-loop-next
invariant-loop-next l = IsPartly with_link l.fn.links l.next-iterator l.fn.rooms l.rooms
