-- The first row and column of some cells aren't after the last.
use Rattle.std.proofs.Common.{◌≡◌, ℕ, ◌≤◌, List, [], ◌∷◌, ap, subst, arith, Option, Some}
use Rattle.std.specs.Prelude.{unwrap_or}
use Rattle.xls_data.specs.declared.regions.Dimensions.{Dimensions}
use Rattle.xls_view.specs.Formats.{FormattedCell}
use Rattle.xls_range.specs.Bounds.{bounds_of, columns_at, greatest, least, rows_at}

least_le : (n : ℕ) (ms : List ℕ) → least n ms ≤ n
least_le n [] = omega arith
least_le n (m ∷ ms) = omega (arith, least_le n ms)

le_greatest : (n : ℕ) (ms : List ℕ) → n ≤ greatest n ms
le_greatest n [] = omega arith
le_greatest n (m ∷ ms) = omega (arith, le_greatest n ms)

-- the corners are ordered
pub corners_ordered : (cells : List FormattedCell) (bounds : Dimensions) → bounds_of cells ≡ Some bounds
    → (bounds.start.0 ≤ bounds.end.0) × (bounds.start.1 ≤ bounds.end.1)
corners_ordered [] bounds h = absurd cc
corners_ordered (c ∷ cs) bounds h =
    let is : unwrap_or (bounds_of (c ∷ cs)) bounds ≡ bounds = ap (λ (o : Option Dimensions). unwrap_or o bounds) h in
    let rows : least c.0.0 (rows_at cs) ≤ greatest c.0.0 (rows_at cs) = omega (arith, least_le c.0.0 (rows_at cs), le_greatest c.0.0 (rows_at cs)) in
    let columns : least c.0.1 (columns_at cs) ≤ greatest c.0.1 (columns_at cs) = omega (arith, least_le c.0.1 (columns_at cs), le_greatest c.0.1 (columns_at cs)) in
    subst (λ (d : Dimensions). (d.start.0 ≤ d.end.0) × (d.start.1 ≤ d.end.1)) is (rows, columns)
