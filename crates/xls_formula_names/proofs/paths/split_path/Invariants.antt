use Rattle.std.proofs.Common.{◌≡◌, length}
use Rattle.std.specs.Str.{chars}
use denote.Text.{Utf8}
use denote.Shadow.{shadow}
use Rattle.xls_formula_names.specs.Paths.{split}
use Rattle.xls_formula_names.proofs.PathLemmas.{last_file}
use Rattle.xls_bytes.proofs.CharacterLemmas.{EndsWith}
use Rattle.xls_formula_names.proofs.paths.split_path.Given as goal

abbrev pub invariant-characters : goal.invariant-characters
invariant-characters l = record {
  left_text : shadow (Utf8 l.left);
  file_text : shadow (Utf8 l.file);
  left_end : EndsWith l.fn.text l.left;
  file_end : EndsWith l.fn.text l.file;
  file : (split l.has_slashes (chars l.fn.text)).1 ≡ last_file l.has_slashes (chars l.left) (chars l.file);
}

abbrev pub decreases-characters : goal.decreases-characters
decreases-characters l = length l.left
