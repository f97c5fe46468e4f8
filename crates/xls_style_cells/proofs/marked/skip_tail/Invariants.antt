use Rattle.std.proofs.Common.{length, ◌≡◌}
use Rattle.xls_stream.specs.StringTable.{tail_at}
use Rattle.xls_style_cells.proofs.marked.skip_tail.Given as goal

abbrev pub invariant-loop-left : goal.invariant-loop-left
invariant-loop-left l = tail_at l.left l.text ≡ tail_at l.fn.count l.fn.text

abbrev pub decreases-loop-left : goal.decreases-loop-left
decreases-loop-left l = length l.text
