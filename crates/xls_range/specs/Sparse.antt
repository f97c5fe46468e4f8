-- The dense box of cells that are given with their positions: the smallest one that holds them all,
-- of equal positions with the value that was given last, and with blanks elsewhere.
use Rattle.std.specs.Prelude.{◌≡◌, ℕ, ◌^◌, ◌≤◌, ◌<◌, ◌⊎◌, Bool, Option, Some, None, List, [], ◌∷◌, ◌==◌, ◌&&◌, if◌then◌else◌, All, Any}
use Rattle.std.specs.Option.{option_or}
use Rattle.std.specs.List.{AllByRecursion}
use Rattle.xls_range.specs.Grid.{Grid, no_cells, IsOfCorners, Shows, count_between}

-- the value that is given last for a position
abbrev pub last_at : {T : Type 0} → List ((ℕ × ℕ) × T) → ℕ × ℕ → Option T
last_at [] p = None
last_at (x ∷ xs) p =
    option_or (last_at xs p) (if (x.0.0 == p.0) && (x.0.1 == p.1) then Some x.1 else None)

-- one position comes before another: in an earlier row, or in the same one in an earlier column
abbrev pub Precedes : ℕ × ℕ → ℕ × ℕ → Type 0
Precedes p q = (p.0 < q.0) ⊎ ((p.0 ≡ q.0) × (p.1 < q.1))

-- each position comes before all later ones
abbrev pub IsAscending : List (ℕ × ℕ) → Type 0
IsAscending [] = Unit {0}
IsAscending (p ∷ ps) = AllByRecursion (Precedes p) ps × IsAscending ps

-- the least of the numbers that are read off the elements, and the greatest
pub record IsLeast {X : Type 0} (read : X → ℕ) (xs : List X) (n : ℕ) : Type 0 where
  pub all : All (λ x. n ≤ read x) xs
  pub some : Any (λ x. read x ≡ n) xs

pub record IsGreatest {X : Type 0} (read : X → ℕ) (xs : List X) (n : ℕ) : Type 0 where
  pub all : All (λ x. read x ≤ n) xs
  pub some : Any (λ x. read x ≡ n) xs

-- the corners of the smallest box that holds the positions
pub record AreCorners {T : Type 0} (input : List ((ℕ × ℕ) × T)) (start end : ℕ × ℕ) : Type 0 where
  pub top : IsLeast (λ x. x.0.0) input start.0
  pub left : IsLeast (λ x. x.0.1) input start.1
  pub bottom : IsGreatest (λ x. x.0.0) input end.0
  pub right : IsGreatest (λ x. x.0.1) input end.1

-- the smallest box has 2^64 cells or more
abbrev pub IsTooLarge : {T : Type 0} → List ((ℕ × ℕ) × T) → Type 0
IsTooLarge input =
    (start : ℕ × ℕ) × (end : ℕ × ℕ) × AreCorners input start end
    × (2 ^ 64 ≤ count_between start end)

-- the range is the dense box of these cells
pub record IsDense {T : Type 0} (eq : T → T → Bool) (blank : T → Bool)
    (input : List ((ℕ × ℕ) × T)) (g : Grid T) : Type 0 where
  pub empty : input ≡ [] → g ≡ no_cells
  pub corners : (start end : ℕ × ℕ) → AreCorners input start end → IsOfCorners start end g
  pub shows : Shows eq blank (λ row column. last_at input (row, column)) g
