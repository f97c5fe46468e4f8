use Rattle.std.proofs.Common.{◌≡◌, ◌∙◌, true, false, length, arith}
use Rattle.xls_rows.specs.Readers.{is_empty_cell}
use Rattle.xls_rows.proofs.RowLemmas.{below_first, below_rest, filled_here, filled_later}
use Rattle.xls_rows.proofs.row.first_filled.Goals as goal

pub cell_of-cell-requires : goal.cell_of-cell-requires
cell_of-cell-requires g c =
    below_first (length c.args.cells.now) c.loop-first.indexes.now c.in-Some.first c.in-Some.others.now c.in-Some.ensures
    (c.loop-first.invariant.0 (length c.args.cells.now) c.requires)

pub returns-then-not-is_empty-clause-filled : goal.returns-then-not-is_empty-clause-filled
returns-then-not-is_empty-clause-filled g c =
    let filled : is_empty_cell (g.T.ReadCell.content c.cell_of-cell.result.now) ≡ false = grind arith in
    λ headers. c.loop-first.invariant.1 headers ∙ filled_here (λ x. is_empty_cell (g.T.ReadCell.content x)) headers c.args.cells.now c.loop-first.indexes.now
    c.in-Some.first c.in-Some.others.now c.cell_of-cell.result.now c.in-Some.ensures c.cell_of-cell.ensures filled

pub returns-then-not-is_empty-clause-within : goal.returns-then-not-is_empty-clause-within
returns-then-not-is_empty-clause-within g c = λ n h.
    let below = c.loop-first.invariant.0 n h in (
      below_first n c.loop-first.indexes.now c.in-Some.first c.in-Some.others.now c.in-Some.ensures below,
      below_rest n c.loop-first.indexes.now c.in-Some.first c.in-Some.others.now c.in-Some.ensures below,
    )

pub loop-first-preserved : goal.loop-first-preserved
loop-first-preserved g c =
    let empty : is_empty_cell (g.T.ReadCell.content c.cell_of-cell.result.now) ≡ true = grind arith in (
      λ n h. below_rest n c.loop-first.indexes.now c.in-Some.first c.in-Some.others.now c.in-Some.ensures (c.loop-first.invariant.0 n h),
      λ headers. c.loop-first.invariant.1 headers ∙ filled_later (λ x. is_empty_cell (g.T.ReadCell.content x)) headers c.args.cells.now c.loop-first.indexes.now
          c.in-Some.first c.in-Some.others.now c.cell_of-cell.result.now c.in-Some.ensures c.cell_of-cell.ensures empty,
    )
