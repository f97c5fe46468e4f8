use Rattle.std.proofs.Common.{◌≡◌, ◌++◌, length, map}
use Rattle.std.specs.Str.{chars}
use Rattle.std.specs.String.{string_bytes}
use denote.Shadow.{shadow}
use denote.Text.{Utf8}
use Rattle.xls_bytes.specs.Growth.{IsGrown}
use Rattle.xls_shown_fractions.proofs.texts.append_blanks.Given as goal

abbrev pub invariant-blanks : goal.invariant-blanks
invariant-blanks l = record {
  shown : chars (string_bytes l.text) ++ map (λ c. 32) (chars l.left) ≡ chars (string_bytes l.fn.text) ++ map (λ c. 32) (chars l.fn.piece);
  grown : IsGrown (string_bytes l.fn.text) (string_bytes l.text);
  utf8 : shadow (Utf8 l.left);
}

abbrev pub decreases-blanks : goal.decreases-blanks
decreases-blanks l = length l.left
