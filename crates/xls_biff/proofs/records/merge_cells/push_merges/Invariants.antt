use Rattle.std.proofs.Common.{map}
use Rattle.std.specs.List.{range_with_len}
use Rattle.xls_data.specs.declared.regions.Dimensions.{Dimensions}
use Rattle.xls_biff.specs.Records.MergeCells.{region_at}
use Rattle.xls_record.specs.Reading.{Adds}
use Rattle.xls_biff.proofs.records.merge_cells.push_merges.Given as goal

-- the regions so far
abbrev pub invariant-loop-i : goal.invariant-loop-i
invariant-loop-i l =
    Adds (λ (d : Dimensions). d) l.fn.merges.items l.merges.items (map (region_at l.r) (range_with_len 0 l.i))
