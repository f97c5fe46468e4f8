use Rattle.xls_beside_arrays.proofs.LaidLemmas.{IsPartly}
use Rattle.xls_beside_arrays.proofs.hidden.lay_items.Given as goal
use Rattle.xls_beside_arrays.specs.Hidden.{with_hidden}

-- the items so far are laid
abbrev pub invariant-loop-item : goal.invariant-loop-item
invariant-loop-item l = IsPartly with_hidden l.fn.items l.item-iterator l.fn.rooms l.rooms
