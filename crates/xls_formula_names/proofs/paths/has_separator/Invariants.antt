use Rattle.std.proofs.Common.{◌≡◌, length, false}
use Rattle.std.specs.List.{list_any}
use Rattle.std.specs.Str.{chars}
use denote.Text.{Utf8}
use denote.Shadow.{shadow}
use Rattle.xls_formula_names.specs.Paths.{is_separator}
use Rattle.xls_formula_names.proofs.paths.has_separator.Given as goal

abbrev pub invariant-characters : goal.invariant-characters
invariant-characters l = shadow (Utf8 l.left) × (list_any (is_separator false) (chars l.left) ≡ list_any (is_separator false) (chars l.fn.text))

abbrev pub decreases-characters : goal.decreases-characters
decreases-characters l = length l.left
