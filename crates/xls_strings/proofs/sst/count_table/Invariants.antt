use Rattle.std.proofs.Common.{◌≡◌, ◌≤◌, ◌+◌, ◌*◌, ℕ, List, length}
use Rattle.xls_stream.specs.StringTable.{Strings, weight}
use Rattle.xls_strings.proofs.sst.count_table.Given as goal

-- the strings so far, each of which took three at least
abbrev pub invariant-table : goal.invariant-table
invariant-table l =
    (strings : List (List ℕ)) × Strings l.fn.text strings l.text × (l.count ≡ length strings)
    × (3 * l.count + weight l.text ≤ weight l.fn.text)

abbrev pub decreases-table : goal.decreases-table
decreases-table l = weight l.text
