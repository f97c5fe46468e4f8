use Rattle.std.proofs.Common.{◌≡◌, map, length}
use Rattle.xls_hidden.specs.Said.{said_of}
use Rattle.xls_hidden.specs.Hidden.{damages_in}
use Rattle.xls_hidden.proofs.sheet.DamagesIterator.next.Given as goal

abbrev pub invariant-loop-r : goal.invariant-loop-r
invariant-loop-r l =
    damages_in (map (said_of l.self-inside.version) l.self-inside.records)
    ≡ damages_in (map (said_of l.initial.self-inside.version) l.initial.self-inside.records)

abbrev pub decreases-loop-r : goal.decreases-loop-r
decreases-loop-r l = length l.self-inside.records
