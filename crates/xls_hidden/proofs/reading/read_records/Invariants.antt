use Rattle.std.proofs.Common.{map}
use Rattle.xls_hidden.specs.Said.{said_of}
use Rattle.xls_hidden.specs.Reading.{IsRead}
use Rattle.xls_hidden.proofs.reading.read_records.Given as goal

abbrev pub invariant-records : goal.invariant-records
invariant-records l =
    (goal.iterator-records).can_next l.r-iterator ×
    (goal.iterator-records).is_finite l.r-iterator ×
    IsRead l.version (map (said_of l.version) l.fn.records) (map (said_of l.version) l.r-iterator) l.reading
