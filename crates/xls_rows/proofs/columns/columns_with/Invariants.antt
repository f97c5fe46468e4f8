use Rattle.std.proofs.Common.{◌≡◌, ◌<◌, drop, map, length}
use Rattle.std.specs.Prelude.{All}
use Rattle.std.specs.String.{string_bytes}
use Rattle.xls_rows.specs.Columns.{wanted_column}
use Rattle.xls_rows.specs.Rows.{all_read}
use Rattle.xls_rows.proofs.ReadLemmas.{following}
use Rattle.xls_rows.proofs.columns.columns_with.Given as goal

abbrev pub invariant-loop-name : goal.invariant-loop-name
invariant-loop-name l =
    (all_read (wanted_column (map string_bytes l.headers)) (map string_bytes l.names)
    ≡ following l.indexes.items (all_read (wanted_column (map string_bytes l.headers)) (map string_bytes (drop l.name-index l.names))))
    × All (λ k. k < length l.headers) l.indexes.items
