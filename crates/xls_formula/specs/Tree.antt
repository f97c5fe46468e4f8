-- The tree of a formula and its text, as a list of characters. The tree is in the definitions alone.
use Rattle.std.specs.Prelude.{ℕ, ◌+◌, List, [], ◌∷◌, ◌++◌, Bool, true, false, codes, Option, Some, None}
use Rattle.std.specs.Fmt.{decimal}
use Rattle.xls_bytes.specs.Columns.{column_name}
use Rattle.xls_ptg.specs.declared.corner.Corner.{Corner}

mutual
  pub data Tree : Type 0 where
    word : (text : List ℕ) → Tree
    ref : (sheet : Option (List ℕ)) (corner : Corner) → Tree
    area : (sheet : Option (List ℕ)) (first last : Corner) → Tree
    wrap : (before : List ℕ) (inner : Tree) (after : List ℕ) → Tree
    pair : (left : Tree) (operator : List ℕ) (right : Tree) → Tree
    call : (name : List ℕ) (operands : Trees) → Tree

  pub data Trees : Type 0 where
    no_trees : Trees
    tree : (first : Tree) (others : Trees) → Trees

-- `$` before what isn't relative
abbrev pub dollar : Bool → List ℕ
dollar true = []
dollar false = codes "$"

-- a cell by its column's name and its row, counted from 1
abbrev pub corner_text : Corner → List ℕ
corner_text c =
    dollar c.is_column_relative ++ (column_name c.column
    ++ (dollar c.is_row_relative ++ decimal (c.row + 1)))

abbrev pub area_text : Corner → Corner → List ℕ
area_text first last = corner_text first ++ (codes ":" ++ corner_text last)

-- the sheet and `!`, where one is told
abbrev pub on_sheet : Option (List ℕ) → List ℕ
on_sheet None = []
on_sheet (Some sheet) = sheet ++ codes "!"

-- texts with `,` between them
abbrev pub separated : List (List ℕ) → List ℕ
separated [] = []
separated (t ∷ []) = t
separated (t ∷ u ∷ us) = t ++ (codes "," ++ separated (u ∷ us))

abbrev mutual
  pub render : Tree → List ℕ
  render (word text) = text
  render (ref sheet corner) = on_sheet sheet ++ corner_text corner
  render (area sheet first last) = on_sheet sheet ++ area_text first last
  render (wrap before inner after) = before ++ (render inner ++ after)
  render (pair left operator right) = render left ++ (operator ++ render right)
  render (call name operands) =
      name ++ (codes "(" ++ (separated (render_each operands) ++ codes ")"))

  pub render_each : Trees → List (List ℕ)
  render_each no_trees = []
  render_each (tree first others) = render first ∷ render_each others
