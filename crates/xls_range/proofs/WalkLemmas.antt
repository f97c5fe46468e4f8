-- The lists that the iterators go over.
use Rattle.std.proofs.Common.{◌≡◌, ◌⊎◌, inl, inr, ℕ, zero, suc, ◌+◌, ◌-◌, ◌*◌, ◌/◌, ◌%◌, ◌<◌, ◌≤◌, arith, refl, List, [], ◌∷◌, ◌++◌, length, take, drop, sym, ◌∙◌, ap, Bool, true, false, Some, None, length-drop}
use Rattle.std.specs.Prelude.{slice_get, map, filter, not, ◌&&◌, nat_lt, if◌then◌else◌}
use Rattle.std.specs.Option.{option_map}
use Rattle.std.specs.List.{flat_map}
use Rattle.std.proofs.lemmas.List.{take-append-drop, drop-drop}
use Rattle.std.proofs.lemmas.Bool.{cases_lt}
use Rattle.std.proofs.lemmas.Nat.{div-mul-add, mod-mul-add}
use Rattle.std.proofs.lemmas.Bool.Decides.{nat_tests}
use Rattle.xls_range.specs.Grid.{Grid, relative_at, row_at, cell_at, index_of}
use Rattle.xls_range.specs.Lists.{rows_of, cells_from, used}
use Rattle.xls_range.proofs.GridLemmas.{cell_inside, cell_outside}

pub joined_rows : {T : Type 0} (n width : ℕ) (cells : List T) → length cells ≡ n * width → flat_map (λ row. row) (rows_of n width cells) ≡ cells
joined_rows zero width [] e = refl
joined_rows zero width (x ∷ xs) e = absurd (omega arith)
joined_rows (suc n) width cells e =
    ap (λ ys. take width cells ++ ys) (joined_rows n width (drop width cells) (omega (arith, length-drop width cells)))
    ∙ take-append-drop width cells

pub values_of_cells : {T : Type 0} (index width : ℕ) (cells : List T) → map (λ cell. cell.2) (cells_from index width cells) ≡ cells
values_of_cells index width [] = refl
values_of_cells index width (x ∷ xs) = ap (λ ys. x ∷ ys) (values_of_cells (index + 1) width xs)

pub used-filter : {T : Type 0} (blank : T → Bool) (cells : List (ℕ × ℕ × T)) → used blank cells ≡ filter (λ cell. not (blank cell.2)) cells
used-filter blank [] = refl
used-filter blank (x ∷ xs) =
    elim (blank x.2) as (λ b. (if b then used blank xs else x ∷ used blank xs) ≡ (if not b then x ∷ filter (λ cell. not (blank cell.2)) xs else filter (λ cell. not (blank cell.2)) xs))
    [ true ↦ used-filter blank xs | false ↦ ap (λ ys. x ∷ ys) (used-filter blank xs) ]

pub slice_get-cells_from : {T : Type 0} (index width : ℕ) (cells : List T) (k : ℕ) → slice_get (cells_from index width cells) k ≡ option_map (λ x. ((index + k) / width, (index + k) % width, x)) (slice_get cells k)
slice_get-cells_from index width [] k = refl
slice_get-cells_from index width (x ∷ xs) zero = let e : index + 0 ≡ index = omega arith in rw e refl
slice_get-cells_from index width (x ∷ xs) (suc k) = let e : index + suc k ≡ index + 1 + k = omega arith in rw e (slice_get-cells_from (index + 1) width xs k)

relative_inside : {T : Type 0} (g : Grid T) (i j : ℕ) → i < g.height → j < g.width → relative_at g i j ≡ slice_get g.cells (index_of g i j)
relative_inside g i j p q =
    let inside : (nat_lt i g.height && nat_lt j g.width) ≡ true = grind (arith, nat_tests) in
    rw inside refl

pub cells_in_place : {T : Type 0} (g : Grid T) (i j : ℕ) → i < g.height → j < g.width
    → slice_get (cells_from 0 g.width g.cells) (index_of g i j) ≡ option_map (λ x. (i, j, x)) (relative_at g i j)
cells_in_place g i j p q =
    let at : 0 + index_of g i j ≡ i * g.width + j = omega arith in
    let row : (0 + index_of g i j) / g.width ≡ i = rw at (div-mul-add i g.width j q) in
    let column : (0 + index_of g i j) % g.width ≡ j = rw at (mod-mul-add i g.width j q) in
    slice_get-cells_from 0 g.width g.cells (index_of g i j) ∙ rw (row, column, relative_inside g i j p q) refl

slice_get-take : {T : Type 0} (n : ℕ) (xs : List T) (j : ℕ) → j < n → slice_get (take n xs) j ≡ slice_get xs j
slice_get-take zero xs j p = absurd (omega arith)
slice_get-take (suc n) [] j p = refl
slice_get-take (suc n) (x ∷ xs) zero p = refl
slice_get-take (suc n) (x ∷ xs) (suc j) p = slice_get-take n xs j (omega arith)

slice_get-drop : {T : Type 0} (n : ℕ) (xs : List T) (j : ℕ) → slice_get (drop n xs) j ≡ slice_get xs (n + j)
slice_get-drop zero xs j = let e : 0 + j ≡ j = omega arith in rw e refl
slice_get-drop (suc n) [] j = refl
slice_get-drop (suc n) (x ∷ xs) j = let e : suc n + j ≡ suc (n + j) = omega arith in rw e (slice_get-drop n xs j)

slice_get-rows_of : {T : Type 0} (n width : ℕ) (cells : List T) (i : ℕ) → i < n → slice_get (rows_of n width cells) i ≡ Some (take width (drop (i * width) cells))
slice_get-rows_of zero width cells i p = absurd (omega arith)
slice_get-rows_of (suc n) width cells zero p = let e : 0 * width ≡ 0 = omega arith in rw e refl
slice_get-rows_of (suc n) width cells (suc i) p =
    let e : suc i * width ≡ width + i * width = omega arith in
    slice_get-rows_of n width (drop width cells) i (omega arith) ∙ rw (e, drop-drop (i * width) width cells) refl

pub rows_in_place : {T : Type 0} (g : Grid T) (i j : ℕ) → i < g.height → j < g.width
    → (slice_get (rows_of g.height g.width g.cells) i ≡ Some (row_at g i)) × (slice_get (row_at g i) j ≡ relative_at g i j)
rows_in_place g i j p q = (
  slice_get-rows_of g.height g.width g.cells i p,
  slice_get-take g.width (drop (i * g.width) g.cells) j q ∙ slice_get-drop (i * g.width) g.cells j ∙ sym (relative_inside g i j p q),
)

relative_outside : {T : Type 0} (g : Grid T) (i j : ℕ) → (g.height ≤ i) ⊎ (g.width ≤ j) → relative_at g i j ≡ None
relative_outside g i j out =
    let outside : (nat_lt i g.height && nat_lt j g.width) ≡ false = grind (arith, nat_tests) in
    rw outside refl

pub places_agree : {T : Type 0} (g : Grid T) (i j : ℕ) → relative_at g i j ≡ cell_at g (g.top + i) (g.left + j)
places_agree g i j = elim (cases_lt i g.height) [
  | inr below ↦ relative_outside g i j (inl below) ∙ sym (cell_outside g (g.top + i) (g.left + j) (inr (inl (omega arith))))
  | inl p ↦ elim (cases_lt j g.width) [
    | inr right ↦ relative_outside g i j (inr right) ∙ sym (cell_outside g (g.top + i) (g.left + j) (inr (inr (inr (omega arith)))))
    | inl q ↦
        let row : g.top + i - g.top ≡ i = omega arith in
        let column : g.left + j - g.left ≡ j = omega arith in
        let inside : cell_at g (g.top + i) (g.left + j) ≡ slice_get g.cells (index_of g i j) = cell_inside g (g.top + i) (g.left + j) (omega arith) (omega arith) (omega arith) (omega arith) ∙ rw (row, column) refl in
        relative_inside g i j p q ∙ sym inside
  ]
]
