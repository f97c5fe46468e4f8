use Rattle.std.proofs.Common.{◌≡◌, length}
use Rattle.std.specs.Str.{chars}
use denote.Text.{Utf8}
use denote.Shadow.{shadow}
use Rattle.xls_number_formats.specs.Grammar.{after_blanks}
use Rattle.xls_number_formats.proofs.texts.after_blanks.Given as goal

abbrev pub invariant-blanks : goal.invariant-blanks
invariant-blanks l = shadow (Utf8 l.left) × (after_blanks (chars l.left) ≡ after_blanks (chars l.fn.text))

abbrev pub decreases-blanks : goal.decreases-blanks
decreases-blanks l = length l.left
