-- The smallest box that holds some cells.
use Rattle.std.specs.Prelude.{ℕ, min, max, List, [], ◌∷◌, map, Option, Some, None}
use Rattle.xls_data.specs.declared.regions.Dimensions.{Dimensions}
use Rattle.xls_range.specs.Positions.{Entry}

-- the least of a number and some others, and the greatest
abbrev pub least : ℕ → List ℕ → ℕ
least n [] = n
least n (m ∷ ms) = min m (least n ms)

abbrev pub greatest : ℕ → List ℕ → ℕ
greatest n [] = n
greatest n (m ∷ ms) = max m (greatest n ms)

-- the rows of some cells, and their columns
abbrev pub rows_at : {T : Type 0} → List (Entry T) → List ℕ
rows_at {T} cells = map (λ (c : Entry T). c.0.0) cells

abbrev pub columns_at : {T : Type 0} → List (Entry T) → List ℕ
columns_at {T} cells = map (λ (c : Entry T). c.0.1) cells

-- from their first row and column to their last, and none of no cells
abbrev pub bounds_of : {T : Type 0} → List (Entry T) → Option Dimensions
bounds_of [] = None
bounds_of (c ∷ cs) = Some (record {
  start = (least c.0.0 (rows_at cs), least c.0.1 (columns_at cs));
  end = (greatest c.0.0 (rows_at cs), greatest c.0.1 (columns_at cs));
})
