-- For the proofs: what a call may have appended before memory ran out, and the beginnings of lines of cells.
use Rattle.std.specs.Prelude.{◌≡◌, ℕ, List, ◌++◌, codes}
use Rattle.std.specs.Fmt.{decimal}

-- new is old and some bytes at its end
abbrev pub GrowsText : List ℕ → List ℕ → Type 0
GrowsText old new = (added : List ℕ) × (new ≡ old ++ added)

-- the line of a cell up to its column
abbrev pub row_head : ℕ → List ℕ
row_head row = codes "cell\t" ++ (decimal row ++ codes "\t")

-- and up to its value
abbrev pub cell_head : ℕ × ℕ → List ℕ → List ℕ
cell_head position kind = row_head position.0 ++ (decimal position.1 ++ (codes "\t" ++ (kind ++ codes "\t")))
