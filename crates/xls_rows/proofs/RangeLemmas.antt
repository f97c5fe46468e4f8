-- The rows of a range, one after another.
use Rattle.std.proofs.Common.{◌≡◌, ℕ, suc, ◌+◌, ◌≤◌, List, [], ◌∷◌, refl, ap, arith, map, length}
use Rattle.std.specs.Prelude.{All, Option, false}
use Rattle.std.proofs.lemmas.List.Elements.{All-head, All-tail}
use Rattle.xls_data.specs.Content.{Content}
use Rattle.xls_range.specs.Grid.{Grid}
use Rattle.xls_range.specs.Lists.{rows_of}
use Rattle.xls_rows.specs.Choices.{Choice}
use Rattle.xls_rows.specs.Readers.{text_read}
use Rattle.xls_rows.specs.Rows.{all_read}
use Rattle.xls_rows.specs.Ranges.{rows_from, rows_read, rows_after, is_unnamed}

-- as many as there are lists of cells
pub rows_from_count : {T : Type 0} (headers : Option (List (List ℕ))) (indexes : List ℕ) (top left : ℕ) (rows : List (List T)) → length (rows_from headers indexes top left rows) ≡ length rows
rows_from_count headers indexes top left [] = refl
rows_from_count headers indexes top left (cells ∷ rows) = ap (λ n. suc n) (rows_from_count headers indexes (top + 1) left rows)

-- the first
pub first_of_all : {X : Type 0} (P : X → Type 0) (xs : List X) (x : X) (others : List X) → xs ≡ x ∷ others → All P xs → P x
first_of_all P xs x others e a = let b = rw e at a in All-head P x others b

-- the others after the first
pub all_after : {X : Type 0} (P : X → Type 0) (xs : List X) (x : X) (others : List X) → xs ≡ x ∷ others → All P xs → All P others
all_after P xs x others e a = let b = rw e at a in All-tail P x others b

pub count_after : {X : Type 0} (top most : ℕ) (xs : List X) (x : X) (others : List X) → xs ≡ x ∷ others → top + length xs ≤ most → top + 1 + length others ≤ most
count_after top most xs x others e h = let b = rw e at h in omega arith

-- the rows after a row of headers
pub named_read : {T : Type 0} (choice : Choice) (content : T → Content) (g : Grid T) (first : List T) (others : List (List T))
    → is_unnamed choice ≡ false → rows_of g.height g.width g.cells ≡ first ∷ others
    → rows_read choice content g ≡ rows_after choice g.width (all_read (text_read (g.top, g.left)) (map content first)) (g.top + 1) g.left others
named_read choice content g first others e f = rw (e, f)
