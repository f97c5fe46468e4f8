use Rattle.std.proofs.Common.{◌≡◌, length}
use Rattle.std.specs.Str.{chars}
use Rattle.std.specs.List.{list_all}
use denote.Text.{Utf8}
use denote.Shadow.{shadow}
use Rattle.xls_bytes.specs.Characters.{is}
use Rattle.xls_number_formats.proofs.brackets.is_blank.Given as goal

abbrev pub invariant-blanks : goal.invariant-blanks
invariant-blanks l = shadow (Utf8 l.left) × (list_all (is 32) (chars l.left) ≡ list_all (is 32) (chars l.fn.text))

abbrev pub decreases-blanks : goal.decreases-blanks
decreases-blanks l = length l.left
