-- The cells of a record and of records, one after another.
use Rattle.std.proofs.Common.{◌≡◌, ℕ, suc, ◌+◌, ◌-◌, ◌<◌, List, ◌∷◌, map, refl, arith}
use Rattle.std.specs.List.{range_with_len}
use Rattle.xls_record.specs.declared.version.Biff.{Biff}
use Rattle.xls_parts.specs.PartRecords.{Placed}
use Rattle.xls_style_cells.specs.Cells.{Cell, position_in, with_style}

module _ (version : Biff) (r : Placed) where
  -- those from a number on
  abbrev pub cells_from : ℕ → ℕ → List Cell
  cells_from next count = map (with_style version r) (map (position_in r.body) (range_with_len next (count - next)))

  pub cell_more : (next count : ℕ) → next < count → cells_from next count ≡ with_style version r (position_in r.body next) ∷ cells_from (next + 1) count
  cell_more next count h = let e : count - next ≡ suc (count - (next + 1)) = omega (arith, h) in rw e refl
