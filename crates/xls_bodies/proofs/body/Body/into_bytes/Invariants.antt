use Rattle.std.proofs.Common.{◌≡◌, ◌++◌, length}
use Rattle.std.specs.List.{concat}
use Rattle.xls_bodies.proofs.body.Body.into_bytes.Given as goal

abbrev pub invariant-pieces : goal.invariant-pieces
invariant-pieces l = l.all.items ++ concat l.continues ≡ l.fn.self

abbrev pub decreases-pieces : goal.decreases-pieces
decreases-pieces l = length l.continues
