use Rattle.std.proofs.Common.{◌≡◌, length}
use Rattle.xls_bodies.specs.Bodies.{joined}
use Rattle.xls_bodies.proofs.body.Body.take_byte.Given as goal

abbrev pub invariant-pieces : goal.invariant-pieces
invariant-pieces l =
    joined l.self-inside.hand.now l.self-inside.continues ≡ joined l.initial.self-inside.hand.now l.initial.self-inside.continues

abbrev pub decreases-pieces : goal.decreases-pieces
decreases-pieces l = length l.self-inside.continues
