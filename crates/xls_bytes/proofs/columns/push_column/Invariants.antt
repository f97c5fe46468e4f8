use Rattle.std.proofs.Common.{◌≡◌, ◌++◌, ◌*◌, ◌≤◌, drop, length}
use Rattle.xls_bytes.specs.Columns.{column_name, word_of}
use Rattle.xls_bytes.proofs.ColumnLemmas.{least}
use Rattle.xls_bytes.proofs.columns.push_column.Given as goal

-- the word of what is left, with the letters so far, is the name, and there is room for that word
abbrev pub invariant-letters : goal.invariant-letters
invariant-letters l = record {
  whole : word_of l.left l.left ++ drop l.start l.letters ≡ column_name l.col;
  room : l.left ≤ 26 * least l.start;
  within : l.start ≤ 7;
  long : length l.letters ≡ 7;
}

abbrev pub decreases-letters : goal.decreases-letters
decreases-letters l = l.left
