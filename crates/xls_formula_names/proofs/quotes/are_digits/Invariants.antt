use Rattle.std.proofs.Common.{◌≡◌, length}
use Rattle.std.specs.Str.{chars}
use denote.Text.{Utf8}
use denote.Shadow.{shadow}
use Rattle.std.specs.Char.{is_ascii_digit}
use Rattle.std.specs.List.{list_all}
use Rattle.xls_formula_names.proofs.quotes.are_digits.Given as goal

abbrev pub invariant-digits : goal.invariant-digits
invariant-digits l = shadow (Utf8 l.left) × (list_all is_ascii_digit (chars l.left) ≡ list_all is_ascii_digit (chars l.fn.text))

abbrev pub decreases-digits : goal.decreases-digits
decreases-digits l = length l.left
