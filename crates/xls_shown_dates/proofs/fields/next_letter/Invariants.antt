use Rattle.std.proofs.Common.{◌≡◌}
use Rattle.xls_shown_dates.specs.Fields.{letters}
use Rattle.xls_shown_dates.proofs.fields.next_letter.Given as goal

abbrev pub invariant-items : goal.invariant-items
invariant-items l = letters l.items ≡ letters l.fn.items
