use Rattle.std.proofs.Common.{◌≡◌, length}
use Rattle.xls_parts.specs.PartRecords.{own_from}
use Rattle.xls_parts.proofs.part_records.PartRecordsIterator.next.Given as goal

abbrev pub invariant-loop-record : goal.invariant-loop-record
invariant-loop-record l =
    own_from l.self-inside.is_in_view l.self-inside.records ≡ own_from l.initial.self-inside.is_in_view l.initial.self-inside.records

abbrev pub decreases-loop-record : goal.decreases-loop-record
decreases-loop-record l = length l.self-inside.records
