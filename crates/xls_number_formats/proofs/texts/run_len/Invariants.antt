use Rattle.std.proofs.Common.{◌≡◌, ◌+◌, ◌≤◌, length}
use Rattle.std.specs.Str.{chars}
use denote.Text.{Utf8}
use denote.Shadow.{shadow}
use Rattle.xls_number_formats.specs.Grammar.{run_of}
use Rattle.xls_number_formats.proofs.texts.run_len.Given as goal

abbrev pub invariant-run : goal.invariant-run
invariant-run l = record {
  text : shadow (Utf8 l.left);
  room : l.count + length l.left ≤ length l.fn.text;
  run : l.count + length (run_of l.letter (chars l.left)) ≡ length (run_of l.letter (chars l.fn.text));
}

abbrev pub decreases-run : goal.decreases-run
decreases-run l = length l.left
