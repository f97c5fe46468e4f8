use Rattle.std.proofs.Common.{◌≡◌, drop}
use Rattle.xls_shown_dates.specs.Fields.{letters, first, fields, fields_from}
use Rattle.xls_shown_dates.specs.Scans.{no_fields, scan_all}
use Rattle.xls_shown_dates.proofs.clocks.read_clock.Given as goal

abbrev pub invariant-items : goal.invariant-items
invariant-items l = record {
  clock : scan_all l.clock (fields_from l.before l.zeros l.items) ≡ scan_all no_fields (fields l.fn.section);
  behind : l.behind ≡ first (letters l.items);
  ahead : letters l.ahead ≡ drop 1 (letters l.items);
}
