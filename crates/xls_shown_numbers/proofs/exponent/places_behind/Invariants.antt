use Rattle.std.proofs.Common.{◌≡◌, ◌+◌, ◌≤◌, length}
use Rattle.xls_shown_numbers.specs.Exponent.{places_behind}
use Rattle.xls_shown_numbers.proofs.ExponentLemmas.{left_behind}
use Rattle.xls_shown_numbers.proofs.exponent.places_behind.Given as goal

abbrev pub invariant-items : goal.invariant-items
invariant-items l = record {
  counted : l.count + left_behind l.behind l.items ≡ places_behind l.fn.section;
  within : l.count + length l.items ≤ length l.fn.section;
}
