use Rattle.std.proofs.Common.{◌≡◌, ◌++◌, ℕ, map}
use Rattle.std.specs.List.{range_with_len}
use Rattle.xls_style_cells.specs.Cells.{position_in}
use Rattle.xls_style_cells.specs.Places.{Place}
use Rattle.xls_style_cells.proofs.places.push_places.Given as goal

-- the places so far
abbrev pub invariant-cells : goal.invariant-cells
invariant-cells l =
    l.places ≡ l.fn.places ++ map {B = Place} (λ (i : ℕ). (position_in l.r.body.now i, l.r.offset)) (range_with_len 0 l.i)
