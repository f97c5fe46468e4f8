-- Which columns of a range are read.
use Rattle.std.specs.Prelude.{ℕ, List}

-- all without headers, all by the headers of the first row, or those with some wanted headers
pub data Choice : Type 0 where
  unnamed : Choice
  every : Choice
  wanted : List (List ℕ) → Choice
