-- Cells that are copied into a new box, row by row.
use Rattle.std.proofs.Common.{◌≡◌, ℕ, ◌+◌, ◌-◌, ◌*◌, ◌<◌, inl, inr, arith, refl, List, [], ◌∷◌, ◌++◌, length, ◌∙◌, subst, get_or, Bool, Option, length-append}
use Rattle.std.proofs.lemmas.List.{get_or_append_left}
use Rattle.std.proofs.lemmas.Bool.{cases_lt}
use Rattle.std.proofs.lemmas.Nat.{mul-add-lt, same_from_place}
use Rattle.std.proofs.lemmas.Option.{get_or_from_slice_get}
use Rattle.std.proofs.Math.Seq.{get_or-append_seam}
use Rattle.xls_range.specs.Grid.{Grid, AreCopies, IsCopyOf, Shows}
use Rattle.xls_range.proofs.GrowthLemmas.{there}

pub AreCopies-zero : {T : Type 0} (eq : T → T → Bool) (blank : T → Bool) (source : ℕ → ℕ → Option T) (start : ℕ × ℕ) (columns : ℕ) → AreCopies eq blank source start columns 0 []
AreCopies-zero eq blank source start columns = record { number = refl; displayed = λ r c y p q. absurd (omega arith) }

pub AreCopies-count : {T : Type 0} (eq : T → T → Bool) (blank : T → Bool) (source : ℕ → ℕ → Option T) (start : ℕ × ℕ) (columns m n : ℕ) (cells : List T) → m ≡ n → AreCopies eq blank source start columns m cells → AreCopies eq blank source start columns n cells
AreCopies-count eq blank source start columns m n cells e copies =
    let P : ℕ → Type 0 = λ k. AreCopies eq blank source start columns k cells in
    subst P e copies

pub AreCopies-suc : {T : Type 0} (eq : T → T → Bool) (blank : T → Bool) (source : ℕ → ℕ → Option T) (start : ℕ × ℕ) (columns row column : ℕ) (cells : List T) (x : T)
    → column < columns → AreCopies eq blank source start columns (row * columns + column) cells
    → IsCopyOf eq blank (source (start.0 + row) (start.1 + column)) x
    → AreCopies eq blank source start columns (row * columns + (column + 1)) (cells ++ x ∷ [])
AreCopies-suc eq blank source start columns row column cells x q copies is = record {
  number = length-append cells (x ∷ []) ∙ omega (arith, copies.number);
  displayed = λ r c y p near. elim (cases_lt (r * columns + c) (row * columns + column)) [
    | inl before ↦
        let inside : r * columns + c < length cells = omega (arith, copies.number) in
        rw (get_or_append_left cells (x ∷ []) y (r * columns + c) inside) (copies.displayed r c y p before)
    | inr from ↦
        let same : r * columns + c ≡ row * columns + column = omega arith in
        let place = same_from_place r c row column columns p q same in
        let end : r * columns + c ≡ length cells = omega (arith, copies.number) in
        rw (end, get_or-append_seam cells x [] y, place.0, place.1) is
  ];
}

-- a box of copies shows the source
pub Shows-copies : {T : Type 0} (eq : T → T → Bool) (blank : T → Bool) (source : ℕ → ℕ → Option T) (start : ℕ × ℕ) (rows columns : ℕ) (cells : List T)
    → AreCopies eq blank source start columns (rows * columns) cells
    → Shows eq blank source (record { top = start.0; left = start.1; height = rows; width = columns; cells = cells })
Shows-copies {T} eq blank source start rows columns cells copies = record {
  displayed = λ r c y is.
      let g : Grid T = record { top = start.0; left = start.1; height = rows; width = columns; cells = cells } in
      let t = there g r c y is in
      let in_rows : r - start.0 < rows = omega (arith, t.low, t.high) in
      let in_columns : c - start.1 < columns = omega (arith, t.left, t.right) in
      let near : (r - start.0) * columns + (c - start.1) < rows * columns = omega (arith, mul-add-lt (r - start.0) columns (c - start.1) rows in_rows in_columns) in
      let read : get_or cells ((r - start.0) * columns + (c - start.1)) y ≡ y = get_or_from_slice_get cells _ y y t.read in
      let at_row : start.0 + (r - start.0) ≡ r = omega (arith, t.low) in
      let at_column : start.1 + (c - start.1) ≡ c = omega (arith, t.left) in
      rw (read, at_row, at_column) at (copies.displayed (r - start.0) (c - start.1) y in_columns near);
}
