-- Sums row by row.
use Rattle.std.proofs.Common.{◌≡◌, ℕ, ◌+◌, ◌*◌, ℤ, pos, neg_ℤ, ◌+ℤ◌, ◌≤ℤ◌, SFits, w64, arith, add-one, refl}
use Rattle.std.proofs.lemmas.Int.{ints}
use Rattle.xls_data.specs.declared.values.Data.{Data}
use Rattle.xls_range.specs.Grid.{Grid, cell_at}
use Rattle.example_sum.specs.Sums.{int_in, total_above}

-- the sum of so many rows, each of which adds at most 2^63 either way
pub record IsSoFar (wanted : ℤ) (rows : ℕ) (sum : ℤ) : Type 0 where
  pub is : sum ≡ wanted
  pub low : neg_ℤ (pos (rows * 9_223_372_036_854_775_808)) ≤ℤ sum
  pub high : sum ≤ℤ pos (rows * 9_223_372_036_854_775_808)

-- one row more
pub one_more : (range : Grid Data) (column rows : ℕ) (sum next : ℤ)
    → IsSoFar (total_above range column rows) rows sum
    → SFits w64 next → next ≡ int_in (cell_at range (range.top + rows) column)
    → IsSoFar (total_above range column (rows + 1)) (rows + 1) (sum +ℤ next)
one_more range column rows sum next so fits is = record {
  is = rw (add-one, so.is, is) refl;
  low = let low : _ ≤ℤ _ = so.low in omega (arith, ints);
  high = let high : _ ≤ℤ _ = so.high in omega (arith, ints);
}
