use Rattle.std.proofs.Common.{◌≡◌, ◌*◌, ◌+◌, ◌-◌, length}
use Rattle.xls_lines.proofs.HexLemmas.{low}
use Rattle.xls_lines.proofs.short.Short.put_hex.Given as goal

-- the digits so far, and those that are left before them
abbrev pub invariant-loop-i : goal.invariant-loop-i
invariant-loop-i l =
    (low (16 - 2 * l.i) l.left l.self ≡ low 16 l.fn.n l.fn.self) × (length l.self ≡ length l.fn.self + 2 * l.i)
