use Rattle.std.proofs.Common.{◌≡◌, length}
use Rattle.std.specs.Str.{chars}
use Rattle.std.specs.List.{list_all}
use denote.Text.{Utf8}
use denote.Shadow.{shadow}
use Rattle.xls_number_formats.specs.Grammar.{is_number_char}
use Rattle.xls_number_formats.proofs.brackets.is_number_text.Given as goal

abbrev pub invariant-digits : goal.invariant-digits
invariant-digits l = shadow (Utf8 l.left) × (list_all is_number_char (chars l.left) ≡ list_all is_number_char (chars l.fn.text))

abbrev pub decreases-digits : goal.decreases-digits
decreases-digits l = length l.left
