use Rattle.std.proofs.Common.{◌≡◌, ◌++◌, length, map}
use Rattle.std.specs.Str.{chars}
use Rattle.std.specs.String.{string_bytes}
use denote.Text.{Utf8}
use denote.Shadow.{shadow}
use Rattle.xls_formula_names.specs.Links.{barred_one}
use Rattle.xls_formula_names.proofs.links.with_bars.Given as goal

-- the text so far and what is left make all
abbrev pub invariant-characters : goal.invariant-characters
invariant-characters l = record {
  left_text : shadow (Utf8 l.left);
  so_far : chars (string_bytes l.text) ++ map barred_one (chars l.left) ≡ map barred_one (chars l.fn.topic);
}

abbrev pub decreases-characters : goal.decreases-characters
decreases-characters l = length l.left
