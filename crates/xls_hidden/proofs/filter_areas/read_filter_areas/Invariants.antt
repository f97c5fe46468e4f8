use Rattle.xls_parts.specs.PartRecords.{globals_records}
use Rattle.xls_hidden.specs.Walking.{AreAreasSoFar}
use Rattle.xls_hidden.proofs.filter_areas.read_filter_areas.Given as goal

abbrev pub invariant-records : goal.invariant-records
invariant-records l = AreAreasSoFar l.version (globals_records l.stream) l.r-iterator l.sheets l.areas.items
