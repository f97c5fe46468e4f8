use Rattle.std.proofs.Common.{◌≡◌, ◌++◌}
use Rattle.xls_parts.specs.PartRecords.{globals_records}
use Rattle.xls_styles.specs.Damages.{damages_of}
use Rattle.xls_styles.proofs.damage.read_damages.Given as goal

-- those so far and those that are left are all
abbrev pub invariant-records : goal.invariant-records
invariant-records l = l.found.items ++ damages_of l.version l.r-iterator ≡ damages_of l.version (globals_records l.stream)
