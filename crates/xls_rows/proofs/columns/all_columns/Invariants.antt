use Rattle.std.proofs.Common.{◌≡◌}
use Rattle.xls_rows.specs.Columns.{numbers_from}
use Rattle.xls_rows.proofs.columns.all_columns.Given as goal

abbrev pub invariant-loop-i : goal.invariant-loop-i
invariant-loop-i l = l.indexes.items ≡ numbers_from 0 l.i
