use Rattle.std.proofs.Common.{◌≡◌, ◌+◌, ◌++◌, length}
use Rattle.std.specs.Option.{option_map_or}
use Rattle.xls_operands.specs.Prefixes.{IsChain, prefix_at}
use Rattle.xls_operands.proofs.prefixes.Prefixes.write.Given as goal

abbrev pub invariant-pieces : goal.invariant-pieces
invariant-pieces l =
    IsChain (length l.self) l.next
    × (l.out.items ++ prefix_at l.self l.next ≡ l.initial.out.items ++ prefix_at l.self l.fn.newest)

abbrev pub decreases-pieces : goal.decreases-pieces
decreases-pieces l = option_map_or (λ i. i + 1) l.next 0
