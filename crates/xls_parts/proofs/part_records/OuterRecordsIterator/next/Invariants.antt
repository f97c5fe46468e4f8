use Rattle.std.proofs.Common.{◌≡◌, ◌+◌, ◌<◌, ◌^◌, length}
use Rattle.xls_parts.specs.PartRecords.{outer_from}
use Rattle.xls_parts.proofs.part_records.OuterRecordsIterator.next.Given as goal

abbrev pub invariant-loop-record : goal.invariant-loop-record
invariant-loop-record l =
    (outer_from l.self-inside.depth l.self-inside.records ≡ outer_from l.initial.self-inside.depth l.initial.self-inside.records)
    × (l.self-inside.depth + length l.self-inside.records < 2 ^ 64)

abbrev pub decreases-loop-record : goal.decreases-loop-record
decreases-loop-record l = length l.self-inside.records
