use Rattle.std.proofs.Common.{◌≡◌, ◌≤◌, length}
use Rattle.std.specs.Str.{chars}
use denote.Text.{Utf8}
use denote.Shadow.{shadow}
use Rattle.xls_formula_names.specs.Quotes.{is_cell}
use Rattle.xls_formula_names.proofs.quotes.is_cell.Given as goal

abbrev pub invariant-letters : goal.invariant-letters
invariant-letters l = record {
  text : shadow (Utf8 l.left);
  within : l.column ≤ 256;
  cell : is_cell l.column (chars l.left) ≡ is_cell 0 (chars l.fn.name);
}

abbrev pub decreases-letters : goal.decreases-letters
decreases-letters l = length l.left
