use Rattle.std.proofs.Common.{◌≡◌, ◌++◌, map}
use Rattle.xls_parts.specs.PartRecords.{globals_records}
use Rattle.xls_styles.specs.Formats.{format_view, formats_of}
use Rattle.xls_styles.proofs.formats.read_codes.Given as goal

-- those so far and those that are left are all
abbrev pub invariant-records : goal.invariant-records
invariant-records l = map format_view l.found.items ++ formats_of l.version l.page l.r-iterator ≡ formats_of l.version l.page (globals_records l.stream)
