use Rattle.std.proofs.Common.{◌≡◌, length}
use Rattle.std.specs.Str.{chars}
use denote.Text.{Utf8}
use denote.Shadow.{shadow}
use Rattle.std.specs.List.{list_any}
use Rattle.xls_formula_names.specs.Quotes.{is_sign}
use Rattle.xls_formula_names.proofs.quotes.has_sign.Given as goal

abbrev pub invariant-characters : goal.invariant-characters
invariant-characters l = shadow (Utf8 l.left) × (list_any is_sign (chars l.left) ≡ list_any is_sign (chars l.fn.name))

abbrev pub decreases-characters : goal.decreases-characters
decreases-characters l = length l.left
