use Rattle.std.proofs.Common.{◌≡◌, ℕ, ◌+◌, ◌-◌, ◌*◌, ◌<◌, ◌≤◌, arith, None, true, false, ◌⊎◌}
use Rattle.std.specs.Prelude.{slice_get, length, drop}
use Rattle.std.proofs.Common.{length-drop}
use Rattle.std.proofs.lemmas.List.{length-take-le}
use Rattle.std.proofs.Math.Nat.{mul-le-mul_right}
use Rattle.std.proofs.lemmas.Bool.Decides.{nat_tests}
use Rattle.xls_range.specs.Grid.{Grid, cell_at, is_inside, row_at}

pub inside : {T : Type 0} (g : Grid T) (row column : ℕ) → g.top ≤ row → row < g.top + g.height → g.left ≤ column → column < g.left + g.width → is_inside g row column ≡ true
inside g row column a b c d = grind (arith, nat_tests)

pub cell_inside : {T : Type 0} (g : Grid T) (row column : ℕ) → g.top ≤ row → row < g.top + g.height → g.left ≤ column → column < g.left + g.width → cell_at g row column ≡ slice_get g.cells ((row - g.top) * g.width + (column - g.left))
unfolding cell_at
cell_inside g row column a b c d = rw (inside g row column a b c d)

pub outside : {T : Type 0} (g : Grid T) (row column : ℕ) → (row < g.top) ⊎ ((g.top + g.height ≤ row) ⊎ ((column < g.left) ⊎ (g.left + g.width ≤ column))) → is_inside g row column ≡ false
outside g row column h = grind (arith, nat_tests)

pub cell_outside : {T : Type 0} (g : Grid T) (row column : ℕ) → (row < g.top) ⊎ ((g.top + g.height ≤ row) ⊎ ((column < g.left) ⊎ (g.left + g.width ≤ column))) → cell_at g row column ≡ None
unfolding cell_at
cell_outside g row column h = rw (outside g row column h)

-- a row is as long as the range is wide
pub row_length : {T : Type 0} (g : Grid T) (i : ℕ) → length g.cells ≡ g.height * g.width → i < g.height → length (row_at g i) ≡ g.width
row_length g i count p =
    let one : (i + 1) * g.width ≤ g.height * g.width = mul-le-mul_right g.width (let q : i + 1 ≤ g.height = omega arith in q) in
    length-take-le g.width (drop (i * g.width) g.cells) (omega (arith, length-drop (i * g.width) g.cells))
