use Rattle.std.proofs.Common.{◌≡◌}
use Rattle.xls_parts.specs.PartRecords.{globals_records}
use Rattle.xls_styles.specs.Colors.{palette_from, palette_of}
use Rattle.xls_styles.proofs.colors.read_palette.Given as goal

-- those so far or of the records that are left
abbrev pub invariant-records : goal.invariant-records
invariant-records l = palette_from l.found.items l.r-iterator ≡ palette_of (globals_records l.stream)
