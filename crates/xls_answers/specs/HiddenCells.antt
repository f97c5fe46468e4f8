-- How many cells of a sheet can't be seen.
use Rattle.std.specs.Prelude.{◌≡◌, ℕ, List, [], Option, Some, None, unwrap_or, slice_get}
use Rattle.xls_beside.specs.Damaged.{at_most_counted}
use Rattle.xls_hidden.specs.Hidden.{Hidden}
use Rattle.xls_hidden_cells.specs.Seen.{cells_hidden}
use Rattle.xls_view.specs.Formats.{FormattedCell}
use Rattle.xls_view.specs.Viewing.{Viewed}
use Rattle.xls_answers.specs.HiddenParts.{IsHiddenAt, Parts}

-- nothing is hidden where nothing is known
abbrev pub hidden_among : Option Hidden → List FormattedCell → ℕ
hidden_among None cells = 0
hidden_among (Some hidden) cells = cells_hidden hidden cells

-- the number of cells of the sheet of an index that stand in rows or columns that can't be seen
abbrev pub CountsHidden : Parts → Viewed → ℕ → ℕ → Type 0
CountsHidden parts view n count =
    (hidden : Option Hidden) × IsHiddenAt parts view n hidden
    × (count ≡ at_most_counted (hidden_among hidden (unwrap_or (slice_get view.formatted n) [])))
