use Rattle.std.proofs.Common.{◌≡◌, ◌==◌, length}
use Rattle.std.specs.Char.{to_ascii_lowercase}
use Rattle.std.specs.Str.{chars}
use Rattle.std.specs.List.{list_all}
use denote.Text.{Utf8}
use denote.Shadow.{shadow}
use Rattle.xls_number_formats.proofs.brackets.is_run.Given as goal

abbrev pub invariant-letters : goal.invariant-letters
invariant-letters l = shadow (Utf8 l.left) × (list_all (λ d. to_ascii_lowercase d == l.letter) (chars l.left) ≡ list_all (λ d. to_ascii_lowercase d == l.letter) (chars l.fn.text))

abbrev pub decreases-letters : goal.decreases-letters
decreases-letters l = length l.left
