use Rattle.std.proofs.Common.{◌≡◌}
use Rattle.xls_style_cells.specs.Tables.{string_table, table_from}
use Rattle.xls_style_cells.specs.Walking.{table_at}
use Rattle.xls_style_cells.proofs.TableLemmas.{AllBehind}
use Rattle.xls_style_cells.proofs.tables.last_table.Given as goal

-- the table so far and the records that are left
abbrev pub invariant-records : goal.invariant-records
invariant-records l =
    (goal.iterator-records).can_next l.r-iterator ×
    (goal.iterator-records).is_finite l.r-iterator ×
    ((table_from (table_at l.stream l.last) l.r-iterator ≡ string_table l.stream) × AllBehind l.stream l.r-iterator)
