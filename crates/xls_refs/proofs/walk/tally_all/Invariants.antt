use Rattle.std.proofs.Common.{◌≡◌, ◌+◌, ◌≤◌, length, map}
use Rattle.xls_formula.specs.Fold.{walk_tokens}
use Rattle.xls_formula.specs.Holding.{scope_context}
use Rattle.xls_refs.specs.Steps.{key_cite, tally}
use Rattle.xls_refs.proofs.walk.tally_all.Given as goal

-- a token adds at most one operand
abbrev pub invariant-tokens : goal.invariant-tokens
invariant-tokens l =
    (l.count + length l.rest ≤ length l.fn.tokens)
    × (walk_tokens (scope_context l.scope) tally l.fn.tokens 0 (0, map key_cite l.initial.cites.items) ≡ walk_tokens (scope_context l.scope) tally l.rest 0 (l.count, map key_cite l.cites.items))

abbrev pub decreases-tokens : goal.decreases-tokens
decreases-tokens l = length l.rest
