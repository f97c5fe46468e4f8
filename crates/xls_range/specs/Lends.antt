-- What a borrow of one cell or of one row writes back.
use Rattle.std.specs.Prelude.{ℕ, List}
use Rattle.std.specs.Borrow.{Array, Lends, Fml, RattleType, MutBor}
use Rattle.std.specs.declared.cmp.PartialEq.{Ghosts as EqGhosts}
use Rattle.xls_data.specs.declared.kind.CellType.{Ghosts as CellGhosts}
use Rattle.xls_range.specs.Grid.{Grid, with_cell, with_row}
use Rattle.xls_range.specs.contracts.range.Range.{the_row}

-- once the borrow r ends, the cell has the last value written through r
abbrev pub lends_cell : (T : RattleType) → CellGhosts T.Denot → EqGhosts T.Denot
    → MutBor (Grid T.Denot) → ℕ → MutBor T.Denot → Fml
lends_cell T cell eq s i r = Lends (the_row T cell eq) T s r (with_cell s.now i)

-- once the borrow r ends, the row has the cells last written through r
abbrev pub lends_row : (T : RattleType) → CellGhosts T.Denot → EqGhosts T.Denot
    → MutBor (Grid T.Denot) → ℕ → MutBor (List T.Denot) → Fml
lends_row T cell eq s i r = Lends (the_row T cell eq) (Array T 0) s r (with_row s.now i)
