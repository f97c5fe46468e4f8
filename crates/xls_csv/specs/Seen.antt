-- What can be seen of a box.
use Rattle.std.specs.Prelude.{List, Option, Some, None}
use Rattle.xls_hidden.specs.Hidden.{Hidden}
use Rattle.xls_hidden_cells.specs.Seen.{seen_rows}
use Rattle.xls_csv.specs.declared.extent.Extent.{Extent}

-- of the rows of a box those that can be seen, each without the fields of columns that can't; all, where it isn't asked
-- for what is hidden
abbrev pub seen_in : {T : Type 0} → Option Hidden → Extent → List (List T) → List (List T)
seen_in None box rows = rows
seen_in (Some hidden) box rows = seen_rows hidden box.top box.left rows
