use Rattle.std.proofs.Common.{◌≡◌, ◌++◌, map}
use Rattle.xls_parts.specs.PartRecords.{globals_records}
use Rattle.xls_styles.specs.Fonts.{font_view, fonts_of}
use Rattle.xls_styles.proofs.fonts.read_fonts.Given as goal

-- those so far and those that are left are all
abbrev pub invariant-records : goal.invariant-records
invariant-records l = map font_view l.found.items ++ fonts_of l.version l.page l.r-iterator ≡ fonts_of l.version l.page (globals_records l.stream)
