-- Cells that ascend, gone through once, give the rows of the dense box.
use Rattle.std.proofs.Common.{◌≡◌, ℕ, zero, suc, ◌+◌, ◌-◌, ◌<◌, ◌≤◌, ◌⊎◌, inl, inr, Bool, true, false, List, [], ◌∷◌, map, refl, sym, ap, ◌∙◌, arith, Option, Some, None}
use Rattle.std.specs.Prelude.{◌==◌, ◌&&◌, if◌then◌else◌, unwrap_or}
use Rattle.std.specs.Option.{option_or}
use Rattle.std.specs.List.{AllByRecursion, range_with_len}
use Rattle.xls_range.proofs.PutLemmas.{before_trans}
use Rattle.xls_range.specs.Sparse.{last_at, Precedes, IsAscending}
use Rattle.xls_data.specs.Content.{nothing}
use Rattle.xls_range.specs.Positions.{Entry, Position}
use Rattle.xls_csv.specs.Text.{rows_csv}
use Rattle.xls_csv.proofs.DenseLemmas.{rows_of_dense}
use Rattle.xls_view.specs.Formats.{FormattedCell, plain}
use Rattle.xls_csv.specs.Walk.{Taken, content_in, no_cell, take_at, row_over, left_over, rows_over, walk_box, walk_rows}
use Rattle.xls_range.specs.Bounds.{least, greatest, rows_at, columns_at}
use Rattle.xls_csv.specs.Dense.{box_of, dense_rows, dense_value, from_a1, rows_in}
use Rattle.xls_csv.specs.declared.extent.Extent.{Extent}
use Rattle.xls_csv.specs.Laws.{JoinsToCsv}

-- the positions of cells
abbrev pub positions : {T : Type 0} → List (Entry T) → List Position
positions {T} cells = map (λ (c : Entry T). c.0) cells

-- ---- where the cells that are left stand

-- the position isn't before the one in this row and column
abbrev pub IsFrom : ℕ → ℕ → ℕ → ℕ → Type 0
IsFrom row column r c = (row < r) ⊎ ((row ≡ r) × (column ≤ c))

-- the cell stands there, in a column from the first on and before the end
abbrev pub Stands : {T : Type 0} → ℕ → ℕ → ℕ → ℕ → Entry T → Type 0
Stands left end row column e = IsFrom row column e.0.0 e.0.1 × (left ≤ e.0.1) × (e.0.1 < end)

-- the cells that are left of all cells at a row and a column
pub record AtPlace {T : Type 0} (all : List (Entry T)) (left end row column : ℕ) (rest : List (Entry T)) : Type 0 where
  pub ascending : IsAscending (positions rest)
  pub stand : AllByRecursion (Stands left end row column) rest
  pub same : (r c : ℕ) → IsFrom row column r c → last_at rest (r, c) ≡ last_at all (r, c)

-- a cell after a position is from the next column on
from_next : (row column r c : ℕ) → Precedes (row, column) (r, c) → IsFrom row (column + 1) r c
from_next row column r c (inl l) = inl l
from_next row column r c (inr e) = inr (e.0, omega (arith, e.1))

from_weaker : (row column r c : ℕ) → IsFrom row (column + 1) r c → IsFrom row column r c
from_weaker row column r c (inl l) = inl l
from_weaker row column r c (inr e) = inr (e.0, omega (arith, e.1))

-- a cell that is from a position on and not there is after it
after_from : (row column r c : ℕ) → IsFrom row column r c → ((r == row) && (c == column)) ≡ false
    → Precedes (row, column) (r, c)
after_from row column r c h t = grind arith

other : (row column r c : ℕ) → Precedes (row, column) (r, c) → ((r == row) && (c == column)) ≡ false
other row column r c h = grind arith

-- a position from the next column on isn't this one
passed : (row column r c : ℕ) → IsFrom row (column + 1) r c → ((row == r) && (column == c)) ≡ false
passed row column r c h = grind arith

none_after : {T : Type 0} (row column : ℕ) (xs : List (Entry T)) → AllByRecursion (Precedes (row, column)) (positions xs)
    → last_at xs (row, column) ≡ None
none_after row column [] h = refl
none_after row column (x ∷ xs) h =
    rw (none_after row column xs h.1, other row column x.0.0 x.0.1 h.0) refl

moved : {T : Type 0} (left end row column : ℕ) (xs : List (Entry T)) → AllByRecursion (Precedes (row, column)) (positions xs)
    → AllByRecursion (Stands left end row column) xs → AllByRecursion (Stands left end row (column + 1)) xs
moved left end row column [] h s = tt
moved left end row column (x ∷ xs) h s =
    ((from_next row column x.0.0 x.0.1 h.0, s.0.1, s.0.2), moved left end row column xs h.1 s.1)

all_after : {T : Type 0} (row column : ℕ) (x : Entry T) (xs : List (Entry T)) → Precedes (row, column) x.0
    → AllByRecursion (Precedes x.0) (positions xs) → AllByRecursion (Precedes (row, column)) (positions xs)
all_after row column x [] h s = tt
all_after row column x (y ∷ ys) h s =
    (before_trans row column x.0.0 x.0.1 y.0.0 y.0.1 h s.0, all_after row column x ys h s.1)

option_or-none : {T : Type 0} (o : Option T) → option_or o None ≡ o
option_or-none None = refl
option_or-none (Some x) = refl

-- ---- one step

abbrev Steps : {T : Type 0} → T → List (Entry T) → ℕ → ℕ → ℕ → ℕ → List (Entry T) → Type 0
Steps blank all left end row column rest =
    ((take_at blank row column rest).0 ≡ dense_value blank all row column)
    × AtPlace all left end row (column + 1) (take_at blank row column rest).1

step_by : {T : Type 0} (blank : T) (all : List (Entry T)) (left end row column : ℕ) (x : Entry T) (xs : List (Entry T))
    → AtPlace all left end row column (x ∷ xs) → (b : Bool) → ((x.0.0 == row) && (x.0.1 == column)) ≡ b
    → Steps blank all left end row column (x ∷ xs)
step_by blank all left end row column x xs h true t =
    let here : (x.0.0 ≡ row) × (x.0.1 ≡ column) = grind arith in
    let after : AllByRecursion (Precedes (row, column)) (positions xs) = rw (sym here.0, sym here.1) h.ascending.0 in
    let found : last_at (x ∷ xs) (row, column) ≡ Some x.1 = rw (none_after row column xs after, t) refl in
    let value : x.1 ≡ dense_value blank all row column =
    ap (λ o. unwrap_or o blank) (sym found ∙ h.same row column (inr (refl, omega arith))) in
    rw t (
      value,
      record {
        ascending = h.ascending.1;
        stand = moved left end row column xs after h.stand.1;
        same = λ r c from.
            let gone : ((x.0.0 == r) && (x.0.1 == c)) ≡ false = rw (here.0, here.1) (passed row column r c from) in
            let forgot : last_at (x ∷ xs) (r, c) ≡ last_at xs (r, c) = rw gone (option_or-none (last_at xs (r, c))) in
            sym forgot ∙ h.same r c (from_weaker row column r c from);
      },
    )
step_by blank all left end row column x xs h false t =
    let first : Precedes (row, column) x.0 = after_from row column x.0.0 x.0.1 h.stand.0.0 t in
    let after : AllByRecursion (Precedes (row, column)) (positions (x ∷ xs)) =
    (first, all_after row column x xs first h.ascending.0) in
    let value : blank ≡ dense_value blank all row column =
    ap (λ o. unwrap_or o blank) (sym (none_after row column (x ∷ xs) after) ∙ h.same row column (inr (refl, omega arith))) in
    rw t (
      value,
      record {
        ascending = h.ascending;
        stand = moved left end row column (x ∷ xs) after h.stand;
        same = λ r c from. h.same r c (from_weaker row column r c from);
      },
    )

step : {T : Type 0} (blank : T) (all : List (Entry T)) (left end row column : ℕ) (rest : List (Entry T))
    → AtPlace all left end row column rest → Steps blank all left end row column rest
step blank all left end row column [] h = (
  ap (λ o. unwrap_or o blank) (h.same row column (inr (refl, omega arith))),
  record { ascending = tt; stand = tt; same = λ r c from. h.same r c (from_weaker row column r c from) },
)
step blank all left end row column (x ∷ xs) h = step_by blank all left end row column x xs h _ refl

-- ---- a row

row_is : {T : Type 0} (blank : T) (all : List (Entry T)) (left end row column n : ℕ) (rest : List (Entry T))
    → AtPlace all left end row column rest
    → (row_over blank row column n rest ≡ map (dense_value blank all row) (range_with_len column n))
    × AtPlace all left end row (column + n) (left_over blank row column n rest)
row_is blank all left end row column zero rest h =
    let e : column + 0 ≡ column = omega arith in
    (refl, rw e h)
row_is blank all left end row column (suc n) rest h =
    let one = step blank all left end row column rest h in
    let others = row_is blank all left end row (column + 1) n (take_at blank row column rest).1 one.1 in
    let e : column + suc n ≡ column + 1 + n = omega arith in
    (rw (one.0, others.0) refl, rw e others.1)

-- the row is at its end: the next one begins
from_row : (left end row r c : ℕ) → IsFrom row end r c → left ≤ c → c < end → IsFrom (row + 1) left r c
from_row left end row r c h l m = grind arith

below_row : (left end row r c : ℕ) → IsFrom (row + 1) left r c → IsFrom row end r c
below_row left end row r c h = grind arith

next_row : {T : Type 0} (left end row : ℕ) (xs : List (Entry T)) → AllByRecursion (Stands left end row end) xs
    → AllByRecursion (Stands left end (row + 1) left) xs
next_row left end row [] s = tt
next_row left end row (x ∷ xs) s =
    ((from_row left end row x.0.0 x.0.1 s.0.0 s.0.1 s.0.2, s.0.1, s.0.2), next_row left end row xs s.1)

rows_are : {T : Type 0} (blank : T) (all : List (Entry T)) (left width n row : ℕ) (rest : List (Entry T))
    → AtPlace all left (left + width) row left rest
    → rows_over blank n row left width rest
    ≡ map (λ r. map (dense_value blank all r) (range_with_len left width)) (range_with_len row n)
rows_are blank all left width zero row rest h = refl
rows_are blank all left width (suc n) row rest h =
    let one = row_is blank all left (left + width) row left width rest h in
    let next : AtPlace all left (left + width) (row + 1) left (left_over blank row left width rest) = record {
      ascending = one.1.ascending;
      stand = next_row left (left + width) row (left_over blank row left width rest) one.1.stand;
      same = λ r c from. one.1.same r c (below_row left (left + width) row r c from);
    } in
    rw (one.0, rows_are blank all left width n (row + 1) (left_over blank row left width rest) next) refl

-- the first of so many rows, and those after it
pub rows_next : {T : Type 0} (blank : T) (n others row left width : ℕ) (cells : List (Entry T)) → n ≡ suc others
    → rows_over blank n row left width cells
    ≡ row_over blank row left width cells ∷ rows_over blank others (row + 1) left width (left_over blank row left width cells)
rows_next blank n others row left width cells e = rw e refl

-- the row that comes after so many, and those after it
pub rows_from : {T : Type 0} (blank : T) (height top left width i : ℕ) (cells : List (Entry T)) → i < height
    → rows_over blank (height - i) (top + i) left width cells
    ≡ row_over blank (top + i) left width cells
    ∷ rows_over blank (height - (i + 1)) (top + (i + 1)) left width (left_over blank (top + i) left width cells)
rows_from blank height top left width i cells l =
    let more : height - i ≡ suc (height - (i + 1)) = omega arith in
    let next : top + (i + 1) ≡ top + i + 1 = omega arith in
    rw next (rows_next blank (height - i) (height - (i + 1)) (top + i) left width cells more)

-- ---- all rows

stand_all : {T : Type 0} (n m k top left end : ℕ) (cs : List (Entry T)) → top ≤ least n (rows_at cs)
    → left ≤ least m (columns_at cs) → greatest k (columns_at cs) < end
    → AllByRecursion (Stands left end top left) cs
stand_all n m k top left end [] t l g = tt
stand_all n m k top left end (c ∷ cs) t l g = (
  stands top left end c.0.0 c.0.1 (omega (arith, t)) (omega (arith, l)) (omega (arith, g)),
  stand_all n m k top left end cs (omega (arith, t)) (omega (arith, l)) (omega (arith, g)),
)
  where
    stands : (top left end r c : ℕ) → top ≤ r → left ≤ c → c < end → IsFrom top left r c × (left ≤ c) × (c < end)
    stands top left end r c t l g = (grind arith, l, g)

least-le : (n : ℕ) (ms : List ℕ) → least n ms ≤ n
least-le n [] = omega arith
least-le n (m ∷ ms) = omega (arith, least-le n ms)

le-greatest : (n : ℕ) (ms : List ℕ) → n ≤ greatest n ms
le-greatest n [] = omega arith
le-greatest n (m ∷ ms) = omega (arith, le-greatest n ms)

pub walks_dense : {T : Type 0} (blank : T) (cells : List (Entry T)) → IsAscending (positions cells)
    → walk_rows blank cells ≡ dense_rows blank cells
walks_dense blank [] h = refl
walks_dense blank (c ∷ cs) h =
    let top = least c.0.0 (rows_at cs) in
    let left = least c.0.1 (columns_at cs) in
    let right = greatest c.0.1 (columns_at cs) in
    let width = right + 1 - left in
    let low : left ≤ c.0.1 = least-le c.0.1 (columns_at cs) in
    let high : c.0.1 ≤ right = le-greatest c.0.1 (columns_at cs) in
    let high_row : top ≤ c.0.0 = least-le c.0.0 (rows_at cs) in
    rows_are blank (c ∷ cs) left width (greatest c.0.0 (rows_at cs) + 1 - top) top (c ∷ cs) (record {
      ascending = h;
      stand = stand_all c.0.0 c.0.1 c.0.1 top left (left + width) (c ∷ cs) (omega (arith, high_row)) (omega (arith, low)) (omega (arith, low, high));
      same = λ r k from. refl;
    })

-- the same of the box from A1 on
pub walks_from_a1 : {T : Type 0} (blank : T) (cells : List (Entry T)) → IsAscending (positions cells)
    → walk_box blank (from_a1 (box_of cells)) cells ≡ rows_in blank cells (from_a1 (box_of cells))
walks_from_a1 blank [] h = refl
walks_from_a1 blank (c ∷ cs) h =
    let top = least c.0.0 (rows_at cs) in
    let left = least c.0.1 (columns_at cs) in
    let right = greatest c.0.1 (columns_at cs) in
    let width = left + (right + 1 - left) in
    let high : c.0.1 ≤ right = le-greatest c.0.1 (columns_at cs) in
    let low : left ≤ c.0.1 = least-le c.0.1 (columns_at cs) in
    rows_are blank (c ∷ cs) 0 width (top + (greatest c.0.0 (rows_at cs) + 1 - top)) 0 (c ∷ cs) (record {
      ascending = h;
      stand = stand_all c.0.0 c.0.1 c.0.1 0 0 (0 + width) (c ∷ cs) (omega arith) (omega arith) (omega (arith, low, high));
      same = λ r k from. refl;
    })

-- the rows over a box of the cells are its rows
pub walked : {T : Type 0} (blank : T) (cells ahead : List (Entry T)) {extent box : Extent} → ahead ≡ cells → extent ≡ box
    → rows_over blank extent.height extent.top extent.left extent.width ahead ≡ walk_box blank box cells
walked blank cells ahead {extent} {box} e is = rw (e, is) refl

-- so the rows joined are the CSV of the dense box
pub joins_to_csv : JoinsToCsv
joins_to_csv cells h = ap rows_csv (walks_dense nothing cells h ∙ sym (rows_of_dense cells))

-- ---- another view of the values

-- the cells in another view of their values
abbrev pub seen_as : {T U : Type 0} → (T → U) → List (Entry T) → List (Entry U)
seen_as {T} f cells = map (λ (c : Entry T). (c.0, f c.1)) cells

rows_seen : {T U : Type 0} (f : T → U) (cells : List (Entry T)) → rows_at (seen_as f cells) ≡ rows_at cells
rows_seen f [] = refl
rows_seen f (c ∷ cs) = ap (λ (l : List ℕ). c.0.0 ∷ l) (rows_seen f cs)

columns_seen : {T U : Type 0} (f : T → U) (cells : List (Entry T)) → columns_at (seen_as f cells) ≡ columns_at cells
columns_seen f [] = refl
columns_seen f (c ∷ cs) = ap (λ (l : List ℕ). c.0.1 ∷ l) (columns_seen f cs)

-- they have the same box
box_seen : {T U : Type 0} (f : T → U) (cells : List (Entry T)) → box_of (seen_as f cells) ≡ box_of cells
box_seen f [] = refl
box_seen f (c ∷ cs) = rw (rows_seen f cs, columns_seen f cs) refl

-- what was taken, in that view
abbrev taken_as : {T U : Type 0} → (T → U) → Taken T → Taken U
taken_as f taken = (f taken.0, seen_as f taken.1)

take_seen : {T U : Type 0} (f : T → U) (blank : T) (row column : ℕ) (cells : List (Entry T))
    → take_at (f blank) row column (seen_as f cells) ≡ taken_as f (take_at blank row column cells)
take_seen f blank row column [] = refl
take_seen {T} {U} f blank row column (c ∷ cs) = by_test ((c.0.0 == row) && (c.0.1 == column))
  where
    by_test : (b : Bool)
        → ◌≡◌ {A = Taken U} (if b then (f c.1, seen_as f cs) else (f blank, seen_as f (c ∷ cs)))
        (taken_as f (if b then (c.1, cs) else (blank, c ∷ cs)))
    by_test true = refl
    by_test false = refl

row_seen : {T U : Type 0} (f : T → U) (blank : T) (row column n : ℕ) (cells : List (Entry T))
    → (row_over (f blank) row column n (seen_as f cells) ≡ map f (row_over blank row column n cells))
    × (left_over (f blank) row column n (seen_as f cells) ≡ seen_as f (left_over blank row column n cells))
row_seen f blank row column zero cells = (refl, refl)
row_seen f blank row column (suc n) cells =
    let others = row_seen f blank row (column + 1) n (take_at blank row column cells).1 in
    rw (take_seen f blank row column cells, others.0, others.1) (refl, refl)

rows_over_seen : {T U : Type 0} (f : T → U) (blank : T) (n row left width : ℕ) (cells : List (Entry T))
    → rows_over (f blank) n row left width (seen_as f cells) ≡ map (map f) (rows_over blank n row left width cells)
rows_over_seen f blank zero row left width cells = refl
rows_over_seen f blank (suc n) row left width cells =
    let first = row_seen f blank row left width cells in
    let others = rows_over_seen f blank n (row + 1) left width (left_over blank row left width cells) in
    rw (first.0, first.1, others) refl

-- the walk over cells in that view is the walk over the cells, in it
pub walk_seen : {T U : Type 0} (f : T → U) (blank : T) (cells : List (Entry T))
    → walk_rows (f blank) (seen_as f cells) ≡ map (map f) (walk_rows blank cells)
walk_seen f blank cells =
    rw (box_seen f cells)
    (rows_over_seen f blank (box_of cells).height (box_of cells).top (box_of cells).left (box_of cells).width cells)

-- so the walk over cells with their formats, without these, is the walk over the plain cells
pub walk_plain : (cells : List FormattedCell) → map (map content_in) (walk_rows no_cell cells) ≡ walk_rows nothing (map plain cells)
walk_plain cells = sym (walk_seen content_in no_cell cells)
