-- Tables of records: a line for each type.
use Rattle.std.specs.Prelude.{ℕ, List, [], ◌∷◌, ◌==◌, if◌then◌else◌}

-- the line of a type, and another one for the types that the table doesn't name
abbrev pub line_of : {Line : Type 0} → Line → List (ℕ × Line) → ℕ → Line
line_of other [] typ = other
line_of other (line ∷ lines) typ = if typ == line.0 then line.1 else line_of other lines typ
