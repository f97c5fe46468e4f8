-- Cells that ascend, gone through once, give the rows of a table's box.
use Rattle.std.proofs.Common.{◌≡◌, List, Option, ap, map}
use Rattle.xls_csv.proofs.WalkLemmas.{walks_dense, walks_from_a1}
use Rattle.xls_csv.specs.Dense.{box_of}
use Rattle.xls_csv.specs.Seen.{seen_in}
use Rattle.xls_csv.specs.Walk.{no_cell, walk_box}
use Rattle.xls_hidden.specs.Hidden.{Hidden}
use Rattle.xls_range.specs.Positions.{IsAscending}
use Rattle.xls_readable.specs.declared.choices.Origin.{Origin}
use Rattle.xls_readable.specs.declared.choices.Origin.TheVariants as origins
use Rattle.xls_tables.specs.Tables.{seen_table, table_box, table_rows, table_walk}
use Rattle.xls_view.specs.Formats.{FormattedCell}

pub walks_table : (origin : Origin) (cells : List FormattedCell) → IsAscending (map (λ (c : FormattedCell). c.0) cells)
    → walk_box no_cell (table_box origin (box_of cells)) cells ≡ table_rows origin cells
walks_table origins.Box cells ascending = walks_dense no_cell cells ascending
walks_table origins.A1 cells ascending = walks_from_a1 no_cell cells ascending

-- so of what can be seen
pub walks_seen : (hidden : Option Hidden) (origin : Origin) (cells : List FormattedCell) → IsAscending (map (λ (c : FormattedCell). c.0) cells)
    → table_walk hidden origin cells ≡ seen_table hidden origin cells
walks_seen hidden origin cells ascending = ap (seen_in hidden (table_box origin (box_of cells))) (walks_table origin cells ascending)
