-- Records before the first string table.
use Rattle.std.proofs.Common.{◌≢◌, ℕ, List, [], ◌∷◌, ◌++◌}
use Rattle.xls_stream.specs.Stream.{Group, Begins, Run}
use Rattle.xls_stream.proofs.Runs.{Run-push}
use Rattle.example_calls.specs.Counts.{NoTable}

-- records without a table were passed
abbrev pub Passed : List ℕ → List ℕ → Type 0
Passed stream rest = (before : List Group) × Run stream before rest × NoTable before

no_table-push : (gs : List Group) (g : Group) → NoTable gs → g.typ ≢ 0x00FC → NoTable (gs ++ (g ∷ []))
no_table-push [] g none other = (other, tt)
no_table-push (x ∷ xs) g none other = (none.0, no_table-push xs g none.1 other)

pub passed-one : (stream rest after : List ℕ) (g : Group) → Passed stream rest → Begins rest g after → g.typ ≢ 0x00FC → Passed stream after
passed-one stream rest after g passed begins other =
    (passed.0 ++ (g ∷ []), Run-push stream passed.0 g rest after passed.1 begins, no_table-push passed.0 g passed.2 other)
