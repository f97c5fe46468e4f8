use Rattle.std.proofs.Common.{drop}
use Rattle.xls_beside_arrays.proofs.LaidLemmas.{IsPartly}
use Rattle.xls_beside_arrays.proofs.styles.lay_damages.Given as goal
use Rattle.xls_beside_arrays.specs.Styles.{with_damaged}

-- the damaged records so far are laid
abbrev pub invariant-loop-damage : goal.invariant-loop-damage
invariant-loop-damage l = IsPartly with_damaged l.damages (drop l.damage-index l.damages) l.fn.rooms l.rooms
