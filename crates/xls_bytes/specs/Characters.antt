-- Characters by their code points.
use Rattle.std.specs.Prelude.{ℕ, ◌==◌, Bool}

-- a character is this one
abbrev pub is : ℕ → ℕ → Bool
is x c = c == x
