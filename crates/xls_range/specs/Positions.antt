-- Positions in order, and the value that was given to a position last.
use Rattle.std.specs.Prelude.{◌≡◌, ℕ, ◌<◌, ◌≤◌, List, [], ◌∷◌, ◌++◌, map, ◌⊎◌, ◌-◌, length, take, slice_index_or, slice_set}
use Rattle.std.specs.List.{AllByRecursion}
pub use Rattle.xls_range.specs.Sparse.{last_at, Precedes, IsAscending}
use Rattle.xls_range.specs.declared.sorted.Numbered.{Numbered}

-- a row and a column
abbrev pub Position : Type 0
Position = ℕ × ℕ

-- a value at its position
abbrev pub Entry : Type 0 → Type 0
Entry T = Position × T

abbrev pub cell_position : {T : Type 0} → Entry T → Position
cell_position c = c.0

abbrev pub numbered_entry : {T : Type 0} → Numbered T → Entry T
numbered_entry g = g.cell

-- the numbers ascend
abbrev pub IsNumbered : {T : Type 0} → List (Numbered T) → Type 0
IsNumbered [] = Unit {0}
IsNumbered (x ∷ xs) = AllByRecursion (λ y. x.number < y.number) xs × IsNumbered xs

-- up to a number
abbrev pub IsNumberedTo : {T : Type 0} → ℕ → List (Numbered T) → Type 0
IsNumberedTo n xs = IsNumbered xs × AllByRecursion (λ x. x.number < n) xs

-- the first cells
abbrev pub kept_cells : {T : Type 0} → ℕ → List (Numbered T) → List (Entry T)
kept_cells n input = map numbered_entry (take n input)

-- both give each position the same value last
abbrev pub HasSame : {T : Type 0} → List (Entry T) → List (Numbered T) → Type 0
HasSame cells input = (p : Position) → last_at cells p ≡ last_at (map numbered_entry input) p

-- by position, and at one position by number
abbrev pub IsNotAfter : {T : Type 0} → Numbered T → Numbered T → Type 0
IsNotAfter x y = (x.cell.0.0 < y.cell.0.0)
    ⊎ ((x.cell.0.0 ≡ y.cell.0.0)
    × ((x.cell.0.1 < y.cell.0.1) ⊎ ((x.cell.0.1 ≡ y.cell.0.1) × (x.number ≤ y.number))))

abbrev pub IsInOrder : {T : Type 0} → List (Numbered T) → Type 0
IsInOrder [] = Unit {0}
IsInOrder (x ∷ xs) = AllByRecursion (IsNotAfter x) xs × IsInOrder xs

-- there is a last cell, and it has this position
abbrev pub EndsAt : {T : Type 0} → List (Entry T) → ℕ → ℕ → Type 0
EndsAt {T} cells row column =
    (0 < length cells) × ((d : Entry T) → ((slice_index_or cells (length cells - 1) d).0.0 ≡ row)
    × ((slice_index_or cells (length cells - 1) d).0.1 ≡ column))

-- in place of a last cell that has the position, or else at the end
abbrev pub PutsEntry : {T : Type 0} → List (Entry T) → Entry T → List (Entry T) → Type 0
PutsEntry before c after =
    (EndsAt before c.0.0 c.0.1 × (after ≡ slice_set before (length before - 1) c))
    ⊎ ((¬ EndsAt before c.0.0 c.0.1) × (after ≡ before ++ c ∷ []))
