use Rattle.std.proofs.Common.{◌≡◌, drop}
use Rattle.std.specs.Str.{chars}
use denote.Text.{Utf8}
use denote.Shadow.{shadow}
use Rattle.std.specs.Float.Parse.{begins_with}
use Rattle.xls_number_formats.proofs.texts.begins_with.Given as goal

abbrev pub invariant-word : goal.invariant-word
invariant-word l = record {
  text : shadow (Utf8 l.left);
  word : begins_with (chars l.left) (drop l.letter-index l.word) ≡ begins_with (chars l.fn.text) l.word;
}
