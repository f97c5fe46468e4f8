use Rattle.std.proofs.Common.{◌≡◌, length}
use Rattle.xls_other_books.specs.Strings.{past_continues}
use Rattle.xls_other_books.proofs.marked.Marked.into_records.Given as goal

abbrev pub invariant-continues : goal.invariant-continues
invariant-continues l = past_continues l.records ≡ past_continues l.initial.records

abbrev pub decreases-continues : goal.decreases-continues
decreases-continues l = length l.records
