use Rattle.std.proofs.Common.{◌≡◌, length}
use Rattle.xls_style_cells.specs.Tables.{bytes_in}
use Rattle.xls_style_cells.proofs.marked.take_joined.Given as goal

abbrev pub invariant-pieces : goal.invariant-pieces
invariant-pieces l = bytes_in l.text ≡ bytes_in l.initial.text

abbrev pub decreases-pieces : goal.decreases-pieces
decreases-pieces l = length l.text
