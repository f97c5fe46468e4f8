-- Where the cells of a range stand.
use Rattle.std.proofs.Common.{◌≡◌, ℕ, zero, suc, [], ◌∷◌, ◌/◌, ◌%◌, ◌+◌, ◌-◌, ◌*◌, ◌<◌, ◌≤◌, inl, inr, arith, refl, List, length, ◌∙◌, ap, get_or, Bool, true, Some, None}
use Rattle.std.specs.Prelude.{slice_get, is_some, IsSome, ◌↔◌, All}
use Rattle.std.proofs.lemmas.Nat.{mul-add-lt, div-add-mod'}
use Rattle.std.proofs.lemmas.Option.{slice_get-get_or}
use Rattle.std.proofs.Math.Nat.{div-lt_iff_lt-mul, mod-lt}
use Rattle.xls_range.specs.Grid.{Grid, IsRange, IsIn, IsOfCorners, IsCopyOf, Shows, cell_at, no_cells}
use Rattle.xls_range.proofs.GridLemmas.{cell_inside, cell_outside}
use Rattle.xls_range.proofs.GrowthLemmas.{sides}

-- a position of the box has a cell
pub cell_at-IsIn : {T : Type 0} (g : Grid T) (r c : ℕ) (d : T) → length g.cells ≡ g.height * g.width → IsIn g r c
    → cell_at g r c ≡ Some (get_or g.cells ((r - g.top) * g.width + (c - g.left)) d)
cell_at-IsIn g r c d count inside =
    let near : (r - g.top) * g.width + (c - g.left) < length g.cells = omega (arith, count, mul-add-lt (r - g.top) g.width (c - g.left) g.height (omega (arith, inside.low, inside.high)) (omega (arith, inside.left, inside.right))) in
    cell_inside g r c inside.low inside.high inside.left inside.right ∙ slice_get-get_or g.cells _ d near

some_from_within : {T : Type 0} (xs : List T) (i : ℕ) → i < length xs → (y : T) × (slice_get xs i ≡ Some y)
some_from_within [] i p = absurd (omega arith)
some_from_within (x ∷ xs) zero p = (x, refl)
some_from_within (x ∷ xs) (suc i) p = some_from_within xs i (omega arith)

pub cell_there : {T : Type 0} (g : Grid T) (r c : ℕ) → length g.cells ≡ g.height * g.width → IsIn g r c → (y : T) × (cell_at g r c ≡ Some y)
cell_there g r c count inside =
    let near : (r - g.top) * g.width + (c - g.left) < length g.cells = omega (arith, count, mul-add-lt (r - g.top) g.width (c - g.left) g.height (omega (arith, inside.low, inside.high)) (omega (arith, inside.left, inside.right))) in
    let cell = some_from_within g.cells ((r - g.top) * g.width + (c - g.left)) near in
    (cell.0, cell_inside g r c inside.low inside.high inside.left inside.right ∙ cell.1)

pub in_from_some : {T : Type 0} (g : Grid T) (r c : ℕ) → IsSome (cell_at g r c) → IsIn g r c
in_from_some g r c is = elim (sides g r c) [
  | inl i ↦ record { low = i.0; high = i.1; left = i.2; right = i.3 }
  | inr o ↦ absurd (let none = cell_outside g r c o in let h = rw none at is in cc)
]

pub fills_its_box : {T : Type 0} (g : Grid T) → IsRange g → (r c : ℕ) → IsSome (cell_at g r c) ↔ IsIn g r c
fills_its_box g is r c = (in_from_some g r c, λ inside. ap is_some (cell_there g r c is.count inside).1)

-- the position of an index
pub cell_at_index : {T : Type 0} (g : Grid T) (i : ℕ) → i < g.height * g.width → 0 < g.width → cell_at g (g.top + i / g.width) (g.left + i % g.width) ≡ slice_get g.cells i
cell_at_index g i near wide =
    let row : i / g.width < g.height = (div-lt_iff_lt-mul wide).1 near in
    let column : i % g.width < g.width = mod-lt i wide in
    let first : g.top + i / g.width - g.top ≡ i / g.width = omega arith in
    let second : g.left + i % g.width - g.left ≡ i % g.width = omega arith in
    cell_inside g (g.top + i / g.width) (g.left + i % g.width) (omega arith) (omega arith) (omega arith) (omega arith)
    ∙ rw (first, second, div-add-mod' i g.width)

pub wide_from_index : (h w i : ℕ) → i < h * w → 0 < w
wide_from_index h zero i p = absurd (omega arith)
wide_from_index h (suc w) i p = omega arith

pub shows_each_cell : {T : Type 0} (eq : T → T → Bool) (blank : T → Bool) (old new : Grid T) (start end : ℕ × ℕ) → IsRange new → IsOfCorners start end new → Shows eq blank (cell_at old) new
    → (r c : ℕ) → start.0 ≤ r → r ≤ end.0 → start.1 ≤ c → c ≤ end.1 → (y : T) × (cell_at new r c ≡ Some y) × IsCopyOf eq blank (cell_at old r c) y
shows_each_cell eq blank old new start end is corners shows r c a b d e =
    let inside : IsIn new r c = record { low = omega (arith, corners.top); high = omega (arith, corners.bottom); left = omega (arith, corners.left); right = omega (arith, corners.right) } in
    let cell = cell_there new r c is.count inside in
    (cell.0, cell.1, shows.displayed r c cell.0 cell.1)

cell_at-no_cells : {T : Type 0} (r c : ℕ) → cell_at (no_cells {T = T}) r c ≡ None
cell_at-no_cells {T} r c = cell_outside (no_cells {T = T}) r c (elim (sides (no_cells {T = T}) r c) [ inl i ↦ absurd (omega (arith, i.1)) | inr o ↦ o ])

pub shows_blanks_of_none : {T : Type 0} (eq : T → T → Bool) (blank : T → Bool) (new : Grid T) → IsRange new → Shows eq blank (cell_at no_cells) new → All (λ x. blank x ≡ true) new.cells
shows_blanks_of_none eq blank new is shows k d p =
    let near : k < new.height * new.width = omega (arith, is.count) in
    let wide = wide_from_index new.height new.width k near in
    let cell = cell_at_index new k near wide ∙ slice_get-get_or new.cells k d p in
    rw cell_at-no_cells at (shows.displayed (new.top + k / new.width) (new.left + k % new.width) (get_or new.cells k d) cell)
