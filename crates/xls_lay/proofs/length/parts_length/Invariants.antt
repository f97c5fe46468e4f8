use Rattle.xls_lay.specs.Cutting.{part_size}
use Rattle.xls_lay.specs.Entries.{entries_in}
use Rattle.xls_lay.proofs.SizeLemmas.{Summed, sum_by}
use Rattle.xls_lay.proofs.length.parts_length.Given as goal

abbrev pub invariant-loop-entry : goal.invariant-loop-entry
invariant-loop-entry l = Summed part_size (sum_by part_size (entries_in l.entries)) l.size l.entries l.entry-index
