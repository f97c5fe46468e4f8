use Rattle.std.proofs.Common.{◌≡◌, ◌≤◌, drop, length}
use Rattle.xls_bodies.proofs.body.Body.skip.Given as goal

abbrev pub invariant-bytes : goal.invariant-bytes
invariant-bytes l = (l.self ≡ drop l._past l.initial.self) × (l._past ≤ length l.initial.self)
