use Rattle.std.proofs.Common.{◌≡◌, length}
use Rattle.xls_formula_shown.specs.Scope.{scope_of}
use Rattle.xls_formula_shown.specs.ShownFold.{walk}
use Rattle.xls_formula_shown.proofs.walk.walk.Given as goal

abbrev pub invariant-tokens : goal.invariant-tokens
invariant-tokens l = walk (scope_of l.scope) l.fn.tokens 0 l.fn.extra l.initial.state ≡ walk (scope_of l.scope) l.rest 0 l.left l.state

abbrev pub decreases-tokens : goal.decreases-tokens
decreases-tokens l = length l.rest
