use Rattle.std.proofs.Common.{◌≡◌}
use Rattle.std.specs.Str.{chars}
use Rattle.xls_number_formats.specs.Grammar.{items, after_section}
use Rattle.xls_number_formats.specs.Walk.{items_left, after_left}
use Rattle.xls_number_formats.specs.Sections.{kinds}
use Rattle.xls_number_formats.specs.Scans.{scan_all, no_items}
use Rattle.xls_number_formats.proofs.sections.read_section.Given as goal

abbrev pub invariant-items : goal.invariant-items
invariant-items l = record {
  scan : scan_all l.scan (kinds (items_left l.items)) ≡ scan_all no_items (kinds (items (chars l.fn.code)));
  after : after_left l.items ≡ after_section (chars l.fn.code);
}
