use Rattle.std.proofs.Common.{◌≡◌, ◌++◌, length}
use Rattle.std.specs.List.{flat_map}
use Rattle.std.specs.Str.{chars}
use Rattle.std.specs.String.{string_bytes}
use denote.Text.{Utf8}
use denote.Shadow.{shadow}
use Rattle.xls_formula_names.specs.Paths.{spelled_one}
use Rattle.xls_formula_names.proofs.paths.append_folders.Given as goal

-- the text so far and what is left make all
abbrev pub invariant-characters : goal.invariant-characters
invariant-characters l = record {
  text : shadow (Utf8 l.left);
  so_far : chars (string_bytes l.out) ++ flat_map spelled_one (chars l.left) ≡ chars (string_bytes l.fn.out) ++ flat_map spelled_one (chars l.fn.folders);
}

abbrev pub decreases-characters : goal.decreases-characters
decreases-characters l = length l.left
