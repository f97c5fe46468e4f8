use Rattle.std.proofs.Common.{◌≡◌, length}
use Rattle.xls_formula.specs.Fold.{walk_tokens}
use Rattle.xls_formula.specs.Holding.{scope_context}
use Rattle.xls_formula.specs.buffer.Put.{put}
use Rattle.xls_formula.proofs.parse.put_tokens.Given as goal

abbrev pub invariant-tokens : goal.invariant-tokens
invariant-tokens l = walk_tokens (scope_context l.scope) put l.fn.tokens 0 l.initial.texts ≡ walk_tokens (scope_context l.scope) put l.rest 0 l.texts

abbrev pub decreases-tokens : goal.decreases-tokens
decreases-tokens l = length l.rest
