use Rattle.std.proofs.Common.{arith}
use Rattle.xls_csv.specs.Boxes.{lent_view}
use Rattle.xls_csv.proofs.RowLemmas.{puts_fields_stop}
use Rattle.xls_csv.proofs.SeenLemmas.{seen_all, seen_more, seen_none, seen_skip, seen_stop}
use Rattle.xls_csv.proofs.seen.put_seen_fields.Goals.{then-not-is_column_hidden+in_ok-is_empty, else-not-is_column_hidden}
use Rattle.xls_csv.proofs.seen.put_seen_fields.Goals as goal

pub loop-column-init : goal.loop-column-init
loop-column-init g c = seen_none _ _ _ _ _ _ _

pub returns-in_err-is_empty-clause-puts : goal.returns-in_err-is_empty-clause-puts
returns-in_err-is_empty-clause-puts g c =
    puts_fields_stop _ _ c.from_residual.result c.from_residual.ensures.1
    (seen_stop c.loop-column-test.true (grind (arith, c.is_column_hidden.ensures, c.if-not-is_column_hidden.true)) c.take_at-cell.ensures c.loop-column.invariant c.in_err-is_empty.ensures)

pub loop-column-preserved : goal.loop-column-preserved
loop-column-preserved g c = elim c.if-not-is_column_hidden.branch [
  | then-not-is_column_hidden+in_ok-is_empty w ↦
      rw (w.out-is, w.is_first-is, w.is_bare-is)
      (seen_more c.loop-column-test.true (grind (arith, c.is_column_hidden.ensures, w.if-not-is_column_hidden.true)) c.take_at-cell.ensures c.loop-column.invariant w.in_ok-is_empty.ensures)
  | else-not-is_column_hidden w ↦
      rw (w.out-is, w.is_first-is, w.is_bare-is)
      (seen_skip c.loop-column-test.true (grind (arith, c.is_column_hidden.ensures, w.if-not-is_column_hidden.false)) c.take_at-cell.ensures c.loop-column.invariant)
]
