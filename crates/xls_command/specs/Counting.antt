-- What is counted in a range.
use Rattle.std.specs.Prelude.{◌≡◌, ℕ, ℤ, ◌-◌, ◌*◌, ◌/◌, length}
use Rattle.xls_data.specs.Data.{is_nothing}
use Rattle.xls_data.specs.declared.values.Data.{Data}
use Rattle.xls_range.specs.Grid.{Grid}
use Rattle.xls_command.specs.Sample.{used_in, contents_in, sum_of_ints}
use Rattle.xls_command.specs.declared.summary.Summary.{Summary}

-- how many cells are used, and the sum of their whole numbers
pub record Measures (range : Grid Data) (counted : ℕ × ℤ) : Type 0 where
  pub cells : counted.0 ≡ length (used_in is_nothing range)
  pub sum : counted.1 ≡ sum_of_ints (contents_in is_nothing range)

-- of a made stream of so many rows
pub record IsCountSummary (n : ℕ) (s : Summary) : Type 0 where
  pub rows : s.rows ≡ n
  pub cells : s.cells ≡ 2 * n
  pub sum : s.sum ≡ n * (n - 1) / 2
