use Rattle.std.proofs.Common.{◌≡◌, ◌<◌, ℕ, List, length}
use Rattle.std.specs.Prelude.{All, Option}
use Rattle.xls_rows.specs.Readers.{is_empty_cell}
use Rattle.xls_rows.specs.Rows.{exposed_of, from_filled}
use Rattle.xls_rows.proofs.row.first_filled.Given as goal

abbrev pub invariant-loop-first : goal.invariant-loop-first
invariant-loop-first g l =
    ((n : ℕ) → All (λ k. k < n) l.column_indexes → All (λ k. k < n) l.indexes)
    × ((headers : Option (List (List ℕ))) →
    from_filled (λ x. is_empty_cell (g.T.ReadCell.content x)) (exposed_of headers l.cells l.column_indexes)
    ≡ from_filled (λ x. is_empty_cell (g.T.ReadCell.content x)) (exposed_of headers l.cells l.indexes))

abbrev pub decreases-loop-first : goal.decreases-loop-first
decreases-loop-first g l = length l.indexes
