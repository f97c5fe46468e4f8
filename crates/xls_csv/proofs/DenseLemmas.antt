-- The dense box by its rows.
use Rattle.std.proofs.Common.{◌≡◌, ℕ, zero, suc, ◌+◌, List, ◌++◌, length, map, take, drop, refl, sym}
use Rattle.std.specs.List.{flat_map, range_with_len}
use Rattle.std.proofs.lemmas.List.{take-map, drop-map}
use Rattle.std.proofs.lemmas.List.FromFn.{length-map-range_with_len}
use Rattle.std.proofs.Math.Seq.{take-append_seam, drop-append_seam}
use Rattle.xls_data.specs.Content.{Content, nothing}
use Rattle.xls_range.specs.Lists.{rows_of}
use Rattle.xls_biff.specs.Cells.{CellEntry}
use Rattle.xls_csv.specs.Dense.{box_of, dense, dense_rows, dense_value}

-- ---- rows of a joined box

taken : {A : Type 0} (xs ys : List A) (n : ℕ) → length xs ≡ n → take n (xs ++ ys) ≡ xs
taken xs ys n e = rw (sym e) (take-append_seam xs ys)

dropped : {A : Type 0} (xs ys : List A) (n : ℕ) → length xs ≡ n → drop n (xs ++ ys) ≡ ys
dropped xs ys n e = rw (sym e) (drop-append_seam xs ys)

rows_of-flat : (cells : List CellEntry) (left width n row : ℕ)
    → rows_of n width (flat_map (λ (r : List Content). r) (map (λ r. map (dense_value nothing cells r) (range_with_len left width)) (range_with_len row n)))
    ≡ map (λ r. map (dense_value nothing cells r) (range_with_len left width)) (range_with_len row n)
rows_of-flat cells left width zero row = refl
rows_of-flat cells left width (suc n) row =
    let first = map (dense_value nothing cells row) (range_with_len left width) in
    let others = flat_map (λ (r : List Content). r) (map (λ r. map (dense_value nothing cells r) (range_with_len left width)) (range_with_len (row + 1) n)) in
    let size : length first ≡ width = length-map-range_with_len (dense_value nothing cells row) left width in
    rw (taken first others width size, dropped first others width size, rows_of-flat cells left width n (row + 1)) refl

pub rows_of_dense : (cells : List CellEntry) → rows_of (dense cells).height (dense cells).width (dense cells).cells ≡ dense_rows nothing cells
rows_of_dense cells =
    rows_of-flat cells (box_of cells).left (box_of cells).width (box_of cells).height (box_of cells).top

-- ---- rows by another view of the values

pub rows_of-map : {A B : Type 0} (f : A → B) (n width : ℕ) (xs : List A)
    → rows_of n width (map f xs) ≡ map (map f) (rows_of n width xs)
rows_of-map f zero width xs = refl
rows_of-map f (suc n) width xs =
    rw (take-map f width xs, drop-map f width xs, rows_of-map f n width (drop width xs)) refl
