use Rattle.std.proofs.Common.{◌≡◌, ◌≤◌, ◌+◌, length}
use Rattle.xls_shown_refs.specs.Counts.{counted}
use Rattle.xls_shown_refs.proofs.spelled.operand_count.Given as goal

-- the tokens that are left make of the operands so far what all make; each token makes one operand more at most
abbrev pub invariant-tokens : goal.invariant-tokens
invariant-tokens l = record {
  so_far : counted l.biff l.rest 0 l.left l.count ≡ counted l.biff l.fn.tokens 0 l.fn.extra 0;
  within : l.count + length l.rest ≤ length l.fn.tokens;
}

abbrev pub decreases-tokens : goal.decreases-tokens
decreases-tokens l = length l.rest
