-- The ends of lines of a text, by its characters: CR LF, CR and LF are each one LF, and the last line has one.
use Rattle.std.specs.Prelude.{ℕ, ◌==◌, List, [], ◌∷◌, ◌++◌, if◌then◌else◌}
use Rattle.xls_macros.specs.declared.newlines.Place.{Place}
use Rattle.xls_macros.specs.declared.newlines.Place.TheVariants.{Start, Returned, Inside}

-- where a character leaves the text: behind a CR, at the start of a line, or inside one
abbrev pub place_after : ℕ → Place
place_after c = if c == 0x0D then Returned else if c == 0x0A then Start else Inside

-- the end of a line; behind a CR it has been given
abbrev pub feed : Place → List ℕ
feed Returned = []
feed Start = 0x0A ∷ []
feed Inside = 0x0A ∷ []

-- what stands for a character
abbrev pub kept : Place → ℕ → List ℕ
kept place c = if c == 0x0D then 0x0A ∷ [] else if c == 0x0A then feed place else c ∷ []

-- a line that is begun ends
abbrev pub last : Place → List ℕ
last Inside = 0x0A ∷ []
last Start = []
last Returned = []

abbrev pub lines_from : Place → List ℕ → List ℕ
lines_from place [] = last place
lines_from place (c ∷ cs) = kept place c ++ lines_from (place_after c) cs

-- the whole text
abbrev pub with_newlines : List ℕ → List ℕ
with_newlines text = lines_from Start text
