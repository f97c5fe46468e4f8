use Rattle.std.proofs.Common.{map}
use Rattle.std.specs.List.{range_with_len}
use Rattle.xls_biff.specs.Cells.{cell_entry_of}
use Rattle.xls_biff.specs.Records.Rk.{rk_cell}
use Rattle.xls_record.specs.Reading.{Adds}
use Rattle.xls_biff.proofs.records.rk.push_mul_rk.Given as goal

-- the cells so far
abbrev pub invariant-loop-i : goal.invariant-loop-i
invariant-loop-i l =
    Adds cell_entry_of l.fn.cells.items l.cells.items (map (rk_cell l.formats l.is_1904 l.r) (range_with_len 0 l.i))
