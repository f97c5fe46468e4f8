-- Known values of the definitions, worked by hand, so that a wrong rule in specs/ does not check.
use Rattle.std.proofs.Common.{◌≡◌, ℕ, ◌^◌, refl, [], ◌∷◌, Some, None}
use Rattle.std.specs.Prelude.{◌==◌}
use Rattle.xls_range.specs.Grid.{Grid, no_cells, start_of, end_of, cell_at, relative_at, row_at, grown_height, grown_count, count_between}
use Rattle.xls_range.specs.Lists.{rows_of, cells_from, used}
use Rattle.xls_range.specs.Sparse.{last_at}

-- the numbers 1, 2 and 3 at (1, 1), (1, 2) and (3, 1); 0 is blank
abbrev three : Grid ℕ
three = record { top = 1; left = 1; height = 3; width = 2; cells = 1 ∷ 2 ∷ 0 ∷ 0 ∷ 3 ∷ 0 ∷ [] }

pub starts_at_the_first_cell : start_of three ≡ Some (1, 1)
starts_at_the_first_cell = refl

pub ends_at_the_last_cell : end_of three ≡ Some (3, 2)
ends_at_the_last_cell = refl

pub an_empty_range_has_no_corner : start_of (no_cells {T = ℕ}) ≡ None
an_empty_range_has_no_corner = refl

pub third_cell : cell_at three 3 1 ≡ Some 3
unfolding cell_at
third_cell = refl

pub nothing_above : cell_at three 0 1 ≡ None
unfolding cell_at
nothing_above = refl

pub nothing_to_the_right : cell_at three 3 3 ≡ None
unfolding cell_at
nothing_to_the_right = refl

pub counted_from_the_start : relative_at three 2 0 ≡ Some 3
counted_from_the_start = refl

pub rows_from_the_top : rows_of 3 2 three.cells ≡ (1 ∷ 2 ∷ []) ∷ (0 ∷ 0 ∷ []) ∷ (3 ∷ 0 ∷ []) ∷ []
rows_from_the_top = refl

pub last_row : row_at three 2 ≡ 3 ∷ 0 ∷ []
last_row = refl

pub used_with_their_places : used (λ n. n == 0) (cells_from 0 2 three.cells) ≡ (0, 0, 1) ∷ (0, 1, 2) ∷ (2, 0, 3) ∷ []
used_with_their_places = refl

-- of equal positions the last wins
pub put_twice : last_at {T = ℕ} (((1, 1), 7) ∷ ((2, 1), 8) ∷ ((1, 1), 9) ∷ []) (1, 1) ≡ Some 9
put_twice = refl

pub put_never : last_at {T = ℕ} (((1, 1), 7) ∷ ((2, 1), 8) ∷ []) (1, 2) ≡ None
put_never = refl

-- from (0, 0) to (5, 2), grown to (6, 0): seven rows, 21 cells; an empty range, grown to (1, 1): four
abbrev six_by_three : Grid ℕ
six_by_three = record { top = 0; left = 0; height = 6; width = 3; cells = [] }

pub seven_rows : grown_height six_by_three 6 ≡ 7
seven_rows = refl

pub twenty_one_cells : grown_count six_by_three 6 0 ≡ 21
twenty_one_cells = refl

pub four_cells : grown_count (no_cells {T = ℕ}) 1 1 ≡ 4
four_cells = refl

-- all positions are 2^64
pub all_positions : count_between (0, 0) (4_294_967_295, 4_294_967_295) ≡ 2 ^ 64
all_positions = refl
