-- Laws of ranges, each over the definitions alone.
use Rattle.std.specs.Prelude.{◌≡◌, ◌≢◌, ℕ, ◌+◌, ◌≤◌, ◌<◌, ◌↔◌, Bool, true, not, Option, None, Some, IsSome, List, ◌∷◌, ◌++◌, All, AllPairs, map, filter, slice_get, IsPermutation}
use Rattle.std.specs.Option.{option_map}
use Rattle.std.specs.List.{flat_map}
use Rattle.xls_range.specs.Grid.{Grid, IsRange, IsIn, IsOfCorners, IsCopyOf, Shows, start_of, end_of, cell_at, relative_at, row_at, index_of, grid_eq, no_cells}
use Rattle.xls_range.specs.Lists.{rows_of, cells_from, used}
use Rattle.xls_range.specs.Sparse.{AreCorners, IsDense}

-- there is one value for each position of the box, and none elsewhere
abbrev pub FillsItsBox : (T : Type 0) → Type 0
FillsItsBox T =
    (g : Grid T) → IsRange g
    → (row column : ℕ) → IsSome (cell_at g row column) ↔ IsIn g row column

-- both have a cell, and the two are equal; or neither has one
abbrev pub IsSameCell : {T : Type 0} → (T → T → Bool) → Option T → Option T → Type 0
IsSameCell eq None None = Unit {0}
IsSameCell eq None (Some y) = ⊥
IsSameCell eq (Some x) None = ⊥
IsSameCell eq (Some x) (Some y) = eq x y ≡ true

-- the same corners, and equal cells at each position
pub record AreSame {T : Type 0} (eq : T → T → Bool) (g h : Grid T) : Type 0 where
  pub start : start_of g ≡ start_of h
  pub end : end_of g ≡ end_of h
  pub cells : (row column : ℕ) → IsSameCell eq (cell_at g row column) (cell_at h row column)

-- two ranges are equal exactly where their corners and all their cells are
abbrev pub EqualWhereSame : {T : Type 0} → (T → T → Bool) → Type 0
EqualWhereSame {T} eq =
    (g h : Grid T) → IsRange g → IsRange h → (grid_eq eq g h ≡ true) ↔ AreSame eq g h

-- where any positions are given, the smallest box has its corners
abbrev pub HasCorners : (T : Type 0) → Type 0
HasCorners T =
    (first : (ℕ × ℕ) × T) (input : List ((ℕ × ℕ) × T))
    → (start : ℕ × ℕ) × (end : ℕ × ℕ) × AreCorners (first ∷ input) start end

-- of equal positions the last one wins
abbrev pub LastWins : {T : Type 0} → (T → T → Bool) → (T → Bool) → Type 0
LastWins {T} eq blank =
    (prefix back : List ((ℕ × ℕ) × T)) (x : (ℕ × ℕ) × T) (g : Grid T)
    → All (λ y. y.0 ≢ x.0) back → IsRange g → IsDense eq blank (prefix ++ x ∷ back) g
    → (y : T) × (cell_at g x.0.0 x.0.1 ≡ Some y) × (eq x.1 y ≡ true)

-- the dense box of cells with distinct positions does not depend on their order
abbrev pub DenseInAnyOrder : {T : Type 0} → (T → T → Bool) → (T → Bool) → Type 0
DenseInAnyOrder {T} eq blank =
    (input others : List ((ℕ × ℕ) × T)) (g h : Grid T)
    → AllPairs (λ x y. x.0 ≢ y.0) input → IsPermutation input others
    → IsRange g → IsRange h → IsDense eq blank input g → IsDense eq blank others h
    → grid_eq eq g h ≡ true

-- the rows joined are the values of the cells in order
abbrev pub RowsJoinToCells : (T : Type 0) → Type 0
RowsJoinToCells T =
    (g : Grid T) → IsRange g
    → flat_map (λ row. row) (rows_of g.height g.width g.cells)
    ≡ map (λ cell. cell.2) (cells_from 0 g.width g.cells)

-- each cell comes at its place, with its row and its column
abbrev pub CellsInPlace : (T : Type 0) → Type 0
CellsInPlace T =
    (g : Grid T) (i j : ℕ) → i < g.height → j < g.width
    → slice_get (cells_from 0 g.width g.cells) (index_of g i j)
    ≡ option_map (λ x. (i, j, x)) (relative_at g i j)

-- the used cells are the cells without blanks
abbrev pub UsedWithoutBlanks : {T : Type 0} → (T → Bool) → Type 0
UsedWithoutBlanks {T} blank =
    (cells : List (ℕ × ℕ × T)) → used blank cells ≡ filter (λ cell. not (blank cell.2)) cells

-- a range that shows another has at each of its positions an equal copy of the cell there, or a
-- blank
abbrev pub ShowsEachCell : {T : Type 0} → (T → T → Bool) → (T → Bool) → Type 0
ShowsEachCell {T} eq blank =
    (old new : Grid T) (start end : ℕ × ℕ)
    → IsRange new → IsOfCorners start end new → Shows eq blank (cell_at old) new
    → (row column : ℕ) → start.0 ≤ row → row ≤ end.0 → start.1 ≤ column → column ≤ end.1
    → (y : T) × (cell_at new row column ≡ Some y) × IsCopyOf eq blank (cell_at old row column) y

-- of an empty range it has blanks alone
abbrev pub ShowsBlanksOfNone : {T : Type 0} → (T → T → Bool) → (T → Bool) → Type 0
ShowsBlanksOfNone {T} eq blank =
    (new : Grid T) → IsRange new → Shows eq blank (cell_at no_cells) new
    → All (λ x. blank x ≡ true) new.cells

-- a place counted from the start has the cell of its absolute position
abbrev pub PlacesAgree : (T : Type 0) → Type 0
PlacesAgree T = (g : Grid T) (i j : ℕ) → relative_at g i j ≡ cell_at g (g.top + i) (g.left + j)

-- each row comes in its turn, with the cells of its places
abbrev pub RowsInPlace : (T : Type 0) → Type 0
RowsInPlace T =
    (g : Grid T) (i j : ℕ) → i < g.height → j < g.width
    → (slice_get (rows_of g.height g.width g.cells) i ≡ Some (row_at g i))
    × (slice_get (row_at g i) j ≡ relative_at g i j)
