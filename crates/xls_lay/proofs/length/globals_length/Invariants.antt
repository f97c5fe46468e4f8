use Rattle.std.proofs.Common.{◌+◌}
use Rattle.xls_lay.specs.Cutting.{globals_size}
use Rattle.xls_lay.specs.Entries.{entries_in}
use Rattle.xls_lay.proofs.SizeLemmas.{Summed, sum_by}
use Rattle.xls_lay.proofs.length.globals_length.Given as goal

abbrev pub invariant-loop-entry : goal.invariant-loop-entry
invariant-loop-entry l = Summed globals_size (4 + sum_by globals_size (entries_in l.entries)) l.size l.entries l.entry-index
