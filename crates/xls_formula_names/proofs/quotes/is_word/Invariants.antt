use Rattle.std.proofs.Common.{◌≡◌, drop}
use Rattle.std.specs.Str.{chars}
use denote.Text.{Utf8}
use denote.Shadow.{shadow}
use Rattle.xls_formula_names.specs.Quotes.{is_word}
use Rattle.xls_formula_names.proofs.quotes.is_word.Given as goal

abbrev pub invariant-word : goal.invariant-word
invariant-word l = record {
  text : shadow (Utf8 l.left);
  word : is_word (drop l.letter-index l.word) (chars l.left) ≡ is_word l.word (chars l.fn.text);
}
