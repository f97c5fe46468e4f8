-- Known values, so that a wrong rule in the definitions does not check.
use Rattle.std.proofs.Common.{◌≡◌, ℕ, [], ◌∷◌, false, true, None, refl}
use Rattle.xls_hidden.specs.Lines.{Table}
use Rattle.xls_hidden.specs.declared.fields.Mark.TheVariants as marks
use Rattle.xls_hidden_cells.specs.Seen.{cells_hidden, is_hidden, seen_from, seen_rows}

-- the second of four lines is hidden by its record, the third is flat, and of the last no record speaks
abbrev pub lines : Table
lines = record {
  marks = marks.Shown ∷ marks.Hidden ∷ marks.Flat ∷ marks.Unsaid ∷ [];
  hides_unsaid = false;
  area = None;
}

-- where no record speaks of a line, it is hidden in this table
abbrev pub others : Table
others = record {
  marks = marks.Shown ∷ marks.Unsaid ∷ [];
  hides_unsaid = true;
  area = None;
}

pub known_hidden : is_hidden lines 1 ≡ true
known_hidden = refl

pub known_flat : is_hidden lines 2 ≡ true
known_flat = refl

pub known_shown : is_hidden lines 3 ≡ false
known_shown = refl

-- past the last line
pub known_past : is_hidden others 2 ≡ false
known_past = refl

-- a list that begins at the second line: its first two items can't be seen
pub known_seen : seen_from {T = ℕ} lines 1 (10 ∷ 20 ∷ 30 ∷ 40 ∷ []) ≡ 30 ∷ 40 ∷ []
known_seen = refl

-- a box of two rows and four columns, whose second row can't be seen
pub known_rows : seen_rows {T = ℕ} (record { rows = others; columns = lines; items = [] }) 0 0 ((1 ∷ 2 ∷ 3 ∷ 4 ∷ []) ∷ (5 ∷ 6 ∷ 7 ∷ 8 ∷ []) ∷ [])
    ≡ (1 ∷ 4 ∷ []) ∷ []
known_rows = refl

-- of four cells two stand in a row that can't be seen, one of them in such a column too, and one more in such a column
pub known_cells : cells_hidden {T = ℕ} (record { rows = others; columns = lines; items = [] })
    (((0, 0), 1) ∷ ((0, 2), 2) ∷ ((1, 0), 3) ∷ ((1, 1), 4) ∷ []) ≡ 3
known_cells = refl
