use Rattle.std.proofs.Common.{◌≡◌, ◌≤◌, length}
use Rattle.std.specs.Str.{chars}
use denote.Text.{Utf8}
use denote.Shadow.{shadow}
use Rattle.xls_formula_names.specs.Quotes.{number_at}
use Rattle.xls_formula_names.proofs.quotes.begins_with_number.Given as goal

abbrev pub invariant-digits : goal.invariant-digits
invariant-digits l = record {
  text : shadow (Utf8 l.left);
  within : l.number ≤ l.last;
  number : number_at l.number (chars l.left) ≡ number_at 0 (chars l.fn.text);
}

abbrev pub decreases-digits : goal.decreases-digits
decreases-digits l = length l.left
