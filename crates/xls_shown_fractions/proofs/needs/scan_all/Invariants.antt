use Rattle.std.proofs.Common.{◌≡◌, ◌+◌, ◌≤◌, ◌^◌, length}
use Rattle.xls_shown_fractions.specs.Scans.{scan_from, scan_of}
use Rattle.xls_shown_fractions.proofs.RoleLemmas.{IsWithin}
use Rattle.xls_shown_fractions.proofs.needs.scan_all.Given as goal

abbrev pub invariant-items : goal.invariant-items
invariant-items l = record {
  all : scan_from l.scan l.whole l.spot l.items ≡ scan_of l.whole l.fn.section;
  within : IsWithin l.spot (length l.items) (length l.fn.section);
  places : l.scan.places + length l.items ≤ length l.fn.section;
  zeros : l.scan.zeros + length l.items ≤ length l.fn.section;
  spelled : l.scan.spelled ≤ 10 ^ 15;
}
