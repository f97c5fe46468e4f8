-- What the reading of a stream and its faults hang on, of all that a caller may set.
use Rattle.std.specs.Prelude.{ℕ, List, Option}
use Rattle.xls_formula.specs.Functions.{Function}
use Rattle.xls_formula.specs.declared.numbers.NumberStyle.{NumberStyle}

-- the forced page, how many bytes a stream may have and how many cells a sheet, and the functions that
-- formulas name by their index, and how they show doubles
pub record Rules : Type 0 where
  pub force_codepage : Option ℕ
  pub max_bytes : ℕ
  pub max_cells : ℕ
  pub functions : List Function
  pub numbers : NumberStyle
