use Rattle.std.proofs.Common.{◌≡◌}
use Rattle.xls_stream.specs.Walks.{IsBytes}
use Rattle.xls_view.specs.SheetContents.{kept_in, regions_of}
use Rattle.xls_view.proofs.merges.next_regions.Given as goal

-- the records that were passed have no regions
abbrev pub invariant-loop-item : goal.invariant-loop-item
invariant-loop-item l =
    (goal.iterator-loop-item).can_next l.records ×
    (goal.iterator-loop-item).is_finite l.records ×
    IsBytes l.records.0 ×
    (regions_of (kept_in l.fn.records.0 l.fn.records.1) ≡ regions_of (kept_in l.records.0 l.records.1))
