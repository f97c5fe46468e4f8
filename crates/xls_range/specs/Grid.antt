-- Ranges of cells. A range is empty, or it has a start and an end, in order, and one value for each
-- position of the box between them. A position is a row and a column, counted from 0. The cells
-- stand row by row, in each row by columns.
use Rattle.std.specs.Ordering.{on, eq_of_both}
use Rattle.std.specs.Cmp.Lexicographic.{pointwise}
use Rattle.std.specs.Cmp.{IsEquivalence}
use Rattle.std.proofs.lemmas.Cmp.{and_equiv, on_equiv, nat_eq_equiv, lists_equiv}
use Rattle.std.specs.Prelude.{◌≡◌, ◌==◌, ℕ, ◌+◌, ◌-◌, ◌*◌, ◌^◌, ◌≤◌, ◌<◌, ◌⊎◌, max, nat_le, nat_lt, ◌&&◌, Bool, true, if◌then◌else◌, Option, None, Some, List, [], ◌++◌, take, drop, length, All, slice_get, slice_set, slice_index_or, MatchOption}

-- what a range is: its first row and column, its height and width, and its cells
pub record Grid (T : Type 0) : Type 0 where
  pub top : ℕ
  pub left : ℕ
  pub height : ℕ
  pub width : ℕ
  pub cells : List T

-- the empty range
abbrev pub no_cells : {T : Type 0} → Grid T
no_cells = record { top = 0; left = 0; height = 0; width = 0; cells = [] }

-- one cell for each position of a box of 32-bit positions; one without cells is `no_cells`
pub record IsGrid {T : Type 0} (top left height width : ℕ) (cells : List T) : Type 0 where
  pub count : length cells ≡ height * width
  pub rows : top + height ≤ 2 ^ 32
  pub columns : left + width ≤ 2 ^ 32
  pub nowhere : height ≡ 0 → (top ≡ 0) × (left ≡ 0)
  pub hollow : height ≡ 0 → width ≡ 0
  pub flat : width ≡ 0 → height ≡ 0

-- what every range is
abbrev pub IsRange : {T : Type 0} → Grid T → Type 0
IsRange g = IsGrid g.top g.left g.height g.width g.cells

-- the corners: the first position and the last one, where there are cells
abbrev pub start_of : {T : Type 0} → Grid T → Option (ℕ × ℕ)
start_of g = if g.height == 0 then None else Some (g.top, g.left)

abbrev pub end_of : {T : Type 0} → Grid T → Option (ℕ × ℕ)
end_of g = if g.height == 0 then None else Some (g.top + g.height - 1, g.left + g.width - 1)

-- the position is inside the range
pub record IsIn {T : Type 0} (g : Grid T) (row column : ℕ) : Type 0 where
  pub low : g.top ≤ row
  pub high : row < g.top + g.height
  pub left : g.left ≤ column
  pub right : column < g.left + g.width

abbrev pub is_inside : {T : Type 0} → Grid T → ℕ → ℕ → Bool
is_inside g row column =
    nat_le g.top row && nat_lt row (g.top + g.height)
    && (nat_le g.left column && nat_lt column (g.left + g.width))

-- where a row and a column of the range, counted from its start, stand in its cells
abbrev pub index_of : {T : Type 0} → Grid T → ℕ → ℕ → ℕ
index_of g i j = i * g.width + j

-- the cell at a position, where there is one
unfoldable pub cell_at : {T : Type 0} → Grid T → ℕ → ℕ → Option T
cell_at g row column =
    if is_inside g row column
    then slice_get g.cells (index_of g (row - g.top) (column - g.left))
    else None

-- the cell in a row and a column that are counted from the start, where there is one
abbrev pub relative_at : {T : Type 0} → Grid T → ℕ → ℕ → Option T
relative_at g i j =
    if nat_lt i g.height && nat_lt j g.width then slice_get g.cells (index_of g i j) else None

-- the cells of a row that is counted from the start
abbrev pub row_at : {T : Type 0} → Grid T → ℕ → List T
row_at g i = take g.width (drop (i * g.width) g.cells)

-- so many cells, all of them blank
pub record AreBlank {T : Type 0} (blank : T → Bool) (count : ℕ) (cells : List T) : Type 0 where
  pub number : length cells ≡ count
  pub all : All (λ x. blank x ≡ true) cells

-- so many blanks stand after the cells
pub record AddsBlanks {T : Type 0} (blank : T → Bool) (count : ℕ) (old new : List T) : Type 0 where
  pub more : List T
  pub blanks : AreBlank blank count more
  pub is : new ≡ old ++ more

-- an end that stands before the start, by its row or by its column; and one that doesn't
abbrev pub IsDisordered : ℕ × ℕ → ℕ × ℕ → Type 0
IsDisordered start end = (end.0 < start.0) ⊎ (end.1 < start.1)

abbrev pub AreOrderedCorners : ℕ × ℕ → ℕ × ℕ → Type 0
AreOrderedCorners start end = (start.0 ≤ end.0) × (start.1 ≤ end.1)

-- how many cells there are between two corners, both included
abbrev pub count_between : ℕ × ℕ → ℕ × ℕ → ℕ
count_between start end = (end.0 + 1 - start.0) * (end.1 + 1 - start.1)

-- the range has these corners
pub record IsOfCorners {T : Type 0} (start end : ℕ × ℕ) (g : Grid T) : Type 0 where
  pub top : g.top ≡ start.0
  pub left : g.left ≡ start.1
  pub bottom : g.top + g.height ≡ end.0 + 1
  pub right : g.left + g.width ≡ end.1 + 1

-- the position stands before the start of the range; and it doesn't
abbrev pub IsBeforeStart : {T : Type 0} → Grid T → ℕ → ℕ → Type 0
IsBeforeStart g row column = (0 < g.height) × ((row < g.top) ⊎ (column < g.left))

abbrev pub IsReachable : {T : Type 0} → Grid T → ℕ → ℕ → Type 0
IsReachable g row column = 0 < g.height → (g.top ≤ row) × (g.left ≤ column)

-- how high and how wide a range is that has grown to a row and a column, and how many cells it
-- has; an empty one grows from (0, 0)
abbrev pub grown_height : {T : Type 0} → Grid T → ℕ → ℕ
grown_height g row = max g.height (row - g.top + 1)

abbrev pub grown_width : {T : Type 0} → Grid T → ℕ → ℕ
grown_width g column = max g.width (column - g.left + 1)

abbrev pub grown_count : {T : Type 0} → Grid T → ℕ → ℕ → ℕ
grown_count g row column = grown_height g row * grown_width g column

-- it has that many rows and columns, the old cells where they were, and blanks elsewhere
pub record Grows {T : Type 0} (blank : T → Bool) (old new : Grid T) (rows columns : ℕ)
    : Type 0 where
  pub top : new.top ≡ old.top
  pub left : new.left ≡ old.left
  pub height : new.height ≡ rows
  pub width : new.width ≡ columns
  pub count : length new.cells ≡ rows * columns
  pub kept : (r c : ℕ) (x : T) → r < old.height → c < old.width
      → slice_index_or new.cells (r * columns + c) x
      ≡ slice_index_or old.cells (r * old.width + c) x
  pub blanks : (r c : ℕ) (x : T) → r < rows → c < columns → (old.height ≤ r) ⊎ (old.width ≤ c)
      → blank (slice_index_or new.cells (r * columns + c) x) ≡ true

-- the value stands at the position, every other cell where it was, and each new one is blank
pub record Sets {T : Type 0} (blank : T → Bool) (old new : Grid T) (row column : ℕ) (value : T)
    : Type 0 where
  pub top : new.top ≡ old.top
  pub left : new.left ≡ old.left
  pub height : new.height ≡ grown_height old row
  pub width : new.width ≡ grown_width old column
  pub here : cell_at new row column ≡ Some value
  pub others : (r c : ℕ) (x : T) → ((r ≡ row) × (c ≡ column) → ⊥)
      → cell_at old r c ≡ Some x → cell_at new r c ≡ Some x
  pub blanks : (r c : ℕ) (x : T) → ((r ≡ row) × (c ≡ column) → ⊥)
      → cell_at old r c ≡ None → cell_at new r c ≡ Some x → blank x ≡ true

-- the same corners
pub record IsSameBox {T : Type 0} (old new : Grid T) : Type 0 where
  pub top : new.top ≡ old.top
  pub left : new.left ≡ old.left
  pub height : new.height ≡ old.height
  pub width : new.width ≡ old.width

-- a cell that stands for a value is an equal copy of it; where there is none, it is blank
abbrev pub IsCopyOf : {T : Type 0} → (T → T → Bool) → (T → Bool) → Option T → T → Type 0
IsCopyOf eq blank value cell = MatchOption value (blank cell ≡ true) (λ x. eq x cell ≡ true)

-- each cell of the range stands for what the source has at its position
pub record Shows {T : Type 0} (eq : T → T → Bool) (blank : T → Bool)
    (source : ℕ → ℕ → Option T) (g : Grid T) : Type 0 where
  pub displayed : (r c : ℕ) (y : T) → cell_at g r c ≡ Some y → IsCopyOf eq blank (source r c) y

-- the first cells of a box, row by row from a start: each stands for what the source has there
pub record AreCopies {T : Type 0} (eq : T → T → Bool) (blank : T → Bool)
    (source : ℕ → ℕ → Option T) (start : ℕ × ℕ) (columns count : ℕ) (cells : List T)
    : Type 0 where
  pub number : length cells ≡ count
  pub displayed : (r c : ℕ) (y : T) → c < columns → r * columns + c < count
      → IsCopyOf eq blank (source (start.0 + r) (start.1 + c))
      (slice_index_or cells (r * columns + c) y)

-- equal corners and equal cells
abbrev pub grid_eq : {T : Type 0} → (T → T → Bool) → Grid T → Grid T → Bool
grid_eq eq =
    eq_of_both (on (λ g. g.top) ◌==◌) (eq_of_both (on (λ g. g.left) ◌==◌)
    (eq_of_both (on (λ g. g.height) ◌==◌) (eq_of_both (on (λ g. g.width) ◌==◌)
    (on (λ g. g.cells) (pointwise eq)))))

pub grid_eq_equiv : {T : Type 0} {eq : T → T → Bool} → IsEquivalence eq → IsEquivalence (grid_eq eq)
grid_eq_equiv h =
    and_equiv (on_equiv (λ g. g.top) nat_eq_equiv) (and_equiv (on_equiv (λ g. g.left) nat_eq_equiv)
    (and_equiv (on_equiv (λ g. g.height) nat_eq_equiv)
    (and_equiv (on_equiv (λ g. g.width) nat_eq_equiv) (on_equiv (λ g. g.cells) (lists_equiv h)))))

-- the range with one cell written
abbrev pub with_cell : {T : Type 0} → Grid T → ℕ → T → Grid T
with_cell g i x = record g { cells = slice_set g.cells i x }

-- a list written over by another from its start, and from an index on; it keeps its length
abbrev pub written_over : {T : Type 0} → ℕ → List T → List T → List T
written_over n xs zs = take n (zs ++ drop (length zs) xs)

abbrev pub part_written : {T : Type 0} → ℕ → List T → ℕ → List T → List T
part_written n xs i ws = written_over n xs (take i xs ++ (ws ++ drop (length ws) (drop i xs)))

-- the range with one row written
abbrev pub with_row : {T : Type 0} → Grid T → ℕ → List T → Grid T
with_row g i xs = record g { cells = part_written (length g.cells) g.cells (i * g.width) xs }
