use Rattle.std.proofs.Common.{◌≡◌, ℕ, List, map}
use Rattle.std.specs.Char.Utf16.{utf16_lossy_chars}
use Rattle.xls_stream.specs.StringTable.{Strings, weight}
use Rattle.xls_strings.proofs.sst.read_table.Given as goal

-- the strings so far
abbrev pub invariant-table : goal.invariant-table
invariant-table l =
    (strings : List (List ℕ)) × Strings l.fn.text strings l.text × (l.strings ≡ map utf16_lossy_chars strings)

abbrev pub decreases-table : goal.decreases-table
decreases-table l = weight l.text
