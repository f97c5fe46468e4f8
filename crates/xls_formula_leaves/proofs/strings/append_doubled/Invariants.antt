use Rattle.std.proofs.Common.{◌≡◌, ◌++◌, length}
use Rattle.std.specs.Str.{chars}
use Rattle.std.specs.String.{string_bytes}
use denote.Text.{Utf8}
use denote.Shadow.{shadow}
use Rattle.xls_bytes.specs.Growth.{IsGrown}
use Rattle.xls_formula_leaves.specs.Constants.{doubled}
use Rattle.xls_formula_leaves.proofs.strings.append_doubled.Given as goal

-- the text so far and what is left make all
abbrev pub invariant-characters : goal.invariant-characters
invariant-characters l = record {
  text : shadow (Utf8 l.left);
  so_far : chars (string_bytes l.out) ++ doubled (chars l.left) ≡ chars (string_bytes l.fn.out) ++ doubled (chars l.fn.text);
  grown : IsGrown (string_bytes l.fn.out) (string_bytes l.out);
}

abbrev pub decreases-characters : goal.decreases-characters
decreases-characters l = length l.left
