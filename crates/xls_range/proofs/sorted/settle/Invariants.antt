use Rattle.std.proofs.Common.{◌≡◌, ◌≤◌, drop, length}
use Rattle.xls_range.specs.Positions.{kept_cells}
use Rattle.xls_range.proofs.PutLemmas.{SoFar}
use Rattle.xls_range.proofs.sorted.settle.Given as goal

-- the first cells are those so far, and the others are as they were
abbrev pub invariant-loop-i : goal.invariant-loop-i
invariant-loop-i g l =
    SoFar l.initial.input.items (kept_cells l.kept l.input.items) (drop l.i l.input.items)
    × (l.kept ≤ l.i) × (length l.input.items ≡ length l.initial.input.items)
