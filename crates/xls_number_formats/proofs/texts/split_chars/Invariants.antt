use Rattle.std.proofs.Common.{◌≡◌, ℕ, List, ◌++◌, drop}
use Rattle.std.specs.Str.{chars}
use denote.Text.{Utf8}
use denote.Shadow.{shadow}
use Rattle.xls_number_formats.proofs.texts.split_chars.Given as goal

abbrev pub invariant-count : goal.invariant-count
invariant-count l = record {
  text : shadow (Utf8 l.left);
  front : (xs : List ℕ) × (l.fn.text ≡ xs ++ l.left);
  left : drop l.counter (chars l.fn.text) ≡ chars l.left;
}
