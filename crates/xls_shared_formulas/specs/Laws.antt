-- A law over the formulas of ranges to which tokens point.
use Rattle.std.specs.Prelude.{◌≡◌, ◌≢◌, ◌<◌, List, [], ◌∷◌, ◌++◌, true, Ok}
use Rattle.xls_shared_formulas.specs.declared.fields.CellPlace.{CellPlace}
use Rattle.xls_shared_formulas.specs.declared.found.RangeFormula.{RangeFormula}
use Rattle.xls_shared_formulas.specs.Fields.{holds}
use Rattle.xls_shared_formulas.specs.Found.{formula_for}

-- none of some formulas belongs to a cell
abbrev pub NoneAt : CellPlace → List RangeFormula → Type 0
NoneAt cell [] = Unit {0}
NoneAt cell (f ∷ fs) = (f.anchor ≢ cell) × NoneAt cell fs

-- one of some formulas, and the last of its cell
pub record IsLast (fs : List RangeFormula) (f : RangeFormula) : Type 0 where
  pub before : List RangeFormula
  pub after : List RangeFormula
  pub whole : fs ≡ before ++ f ∷ after
  pub others : NoneAt f.anchor after

-- the columns of their cells have 16 bits
abbrev pub AreCells : List RangeFormula → Type 0
AreCells [] = Unit {0}
AreCells (f ∷ fs) = (f.anchor.column < 0x10000) × AreCells fs

-- a token finds a formula exactly where that is the last of the token's cell, and its range holds the cell that has the token
abbrev pub TokensFind : Type 0
TokensFind = (fs : List RangeFormula) (token cell : CellPlace) (f : RangeFormula) → AreCells fs → token.column < 0x10000
    → (formula_for fs token cell ≡ Ok f → IsLast fs f × (f.anchor ≡ token) × (holds f.range cell ≡ true))
    × (IsLast fs f → f.anchor ≡ token → holds f.range cell ≡ true → formula_for fs token cell ≡ Ok f)
