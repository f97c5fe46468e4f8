-- A box before its cells are written: a step of the code, which no exported contract cites.
use Rattle.std.specs.Prelude.{◌≡◌, ℕ, Bool, true, List, All}
use Rattle.xls_range.specs.Grid.{Grid, IsOfCorners}
use Rattle.xls_range.specs.Sparse.{AreCorners}

-- the smallest box that holds the cells, all blank
pub record IsBlankBox {T : Type 0} (blank : T → Bool) (input : List ((ℕ × ℕ) × T)) (g : Grid T) : Type 0 where
  pub start : ℕ × ℕ
  pub end : ℕ × ℕ
  pub are : AreCorners input start end
  pub corners : IsOfCorners start end g
  pub blanks : All (λ x. blank x ≡ true) g.cells
