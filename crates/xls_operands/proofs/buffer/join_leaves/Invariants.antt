use Rattle.xls_operands.proofs.LeafLemmas.{IsWritten}
use Rattle.xls_operands.proofs.buffer.join_leaves.Given as goal

abbrev pub invariant-leaves : goal.invariant-leaves
invariant-leaves l = IsWritten l.prefixes l.text l.leaves l.out.items l.rest l.leaf-index
