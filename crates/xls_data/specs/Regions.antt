-- Positions between two corners, both included.
use Rattle.std.specs.Prelude.{ℕ, ◌+◌, ◌-◌, ◌*◌, ◌≤◌, List, [], ◌∷◌}
use Rattle.xls_data.specs.declared.regions.Dimensions.{Dimensions}

-- a position lies in a region
pub record Lies (row col : ℕ) (region : Dimensions) : Type 0 where
  pub below_top : region.start.0 ≤ row
  pub above_bottom : row ≤ region.end.0
  pub right_of_first : region.start.1 ≤ col
  pub left_of_last : col ≤ region.end.1

-- the number of positions of a region whose corners are ordered
abbrev pub positions : Dimensions → ℕ
positions region = (region.end.0 - region.start.0 + 1) * (region.end.1 - region.start.1 + 1)

-- first row, first column, last row and last column
abbrev pub corners : Dimensions → List ℕ
corners region = region.start.0 ∷ region.start.1 ∷ region.end.0 ∷ region.end.1 ∷ []
