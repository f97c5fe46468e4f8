-- The corners of cells whose contents are those that were made.
use Rattle.std.proofs.Common.{◌≡◌, ℕ, zero, suc, ◌+◌, ◌≤◌, List, [], ◌∷◌, map, refl, sym, subst, arith, inl, inr}
use Rattle.std.specs.Prelude.{◌⊎◌, Any}
use Rattle.std.specs.List.{flat_map, range_with_len, AllByRecursion}
use Rattle.std.proofs.lemmas.List.Elements.{All-from_recursion}
use Rattle.xls_data.specs.declared.values.Data.{Data}
use Rattle.xls_range.specs.Sparse.{AreCorners}
use Rattle.xls_range.specs.Positions.{Position}
use Rattle.xls_biff.specs.Cells.{CellEntry}
use Rattle.xls_open.specs.Workbook.{cell_content}
use Rattle.xls_command.specs.Sample.{row_cells, sample_cells}

-- some element has the property
abbrev pub Has : {X : Type 0} → (X → Type 0) → List X → Type 0
Has P [] = ⊥
Has P (x ∷ xs) = P x ⊎ Has P xs

module _ {X : Type 0} (P : X → Type 0) where
  -- so some place has it
  some_of : (xs : List X) → Has P xs → Any P xs
  some_of [] h = absurd h
  some_of (x ∷ xs) (inl p) = (0, x, omega arith, refl, p)
  some_of (x ∷ xs) (inr h) =
      let some = some_of xs h in
      (suc some.0, some.1, omega (arith, some.2), some.3, some.4)

module _ {X Y : Type 0} (f : X → Y) (P : Y → Type 0) where
  -- what some image has, some element has before it
  has_before : (xs : List X) → Has P (map f xs) → Has (λ x. P (f x)) xs
  has_before [] h = absurd h
  has_before (x ∷ xs) (inl p) = inl p
  has_before (x ∷ xs) (inr h) = inr (has_before xs h)

  -- and what all have
  all_before : (xs : List X) → AllByRecursion P (map f xs) → AllByRecursion (λ x. P (f x)) xs
  all_before [] h = tt
  all_before (x ∷ xs) h = (h.0, all_before xs h.1)

-- the cells of rows from one on
abbrev from : ℕ → ℕ → List CellEntry
from a n = flat_map row_cells (range_with_len a n)

-- each row is at most the last one, and each column at most 1
rows_most : (a n m : ℕ) → a + n ≤ suc m → AllByRecursion (λ (c : CellEntry). c.0.0 ≤ m) (from a n)
rows_most a zero m h = tt
rows_most a (suc n) m h = (omega arith, (omega arith, rows_most (a + 1) n m (omega arith)))

-- each column is at most 1
columns_most : (a n : ℕ) → AllByRecursion (λ (c : CellEntry). c.0.1 ≤ 1) (from a n)
columns_most a zero = tt
columns_most a (suc n) = (omega arith, (omega arith, columns_most (a + 1) n))

-- no row is less than 0
rows_least : (a n : ℕ) → AllByRecursion (λ (c : CellEntry). 0 ≤ c.0.0) (from a n)
rows_least a zero = tt
rows_least a (suc n) = (omega arith, (omega arith, rows_least (a + 1) n))

-- and no column
columns_least : (a n : ℕ) → AllByRecursion (λ (c : CellEntry). 0 ≤ c.0.1) (from a n)
columns_least a zero = tt
columns_least a (suc n) = (omega arith, (omega arith, columns_least (a + 1) n))

-- the last row is there
last_row : (a n m : ℕ) → suc m ≡ a + suc n → Has (λ (c : CellEntry). c.0.0 ≡ m) (from a (suc n))
last_row a zero m h = inl (omega arith)
last_row a (suc n) m h = inr (inr (last_row (a + 1) n m (omega arith)))

-- from row 0 and column 0 to the last row and column 1
pub corners : (m : ℕ) (cells : List (Position × Data)) → map cell_content cells ≡ sample_cells (suc m)
    → AreCorners cells (0, 0) (m, 1)
corners m cells e = record {
  top = record {
    all = All-from_recursion _ cells (before (λ c. 0 ≤ c.0.0) (rows_least 0 (suc m)));
    some = some_of _ cells (has (λ c. c.0.0 ≡ 0) (inl refl));
  };
  left = record {
    all = All-from_recursion _ cells (before (λ c. 0 ≤ c.0.1) (columns_least 0 (suc m)));
    some = some_of _ cells (has (λ c. c.0.1 ≡ 0) (inl refl));
  };
  bottom = record {
    all = All-from_recursion _ cells (before (λ c. c.0.0 ≤ m) (rows_most 0 (suc m) m (omega arith)));
    some = some_of _ cells (has (λ c. c.0.0 ≡ m) (last_row 0 m m (omega arith)));
  };
  right = record {
    all = All-from_recursion _ cells (before (λ c. c.0.1 ≤ 1) (columns_most 0 (suc m)));
    some = some_of _ cells (has (λ c. c.0.1 ≡ 1) (inr (inl refl)));
  };
}
  where
    before : (P : CellEntry → Type 0) → AllByRecursion P (sample_cells (suc m))
        → AllByRecursion (λ x. P (cell_content x)) cells
    before P h = all_before cell_content P cells (subst (λ (xs : List CellEntry). AllByRecursion P xs) (sym e) h)

    has : (P : CellEntry → Type 0) → Has P (sample_cells (suc m)) → Has (λ x. P (cell_content x)) cells
    has P h = has_before cell_content P cells (subst (λ (xs : List CellEntry). Has P xs) (sym e) h)
