-- What a host may find at its paths.
use Rattle.std.specs.Prelude.{ℕ, List, Option}

-- what may be found after could be found before
abbrev pub Stays : (List ℕ → Option (List ℕ) → Type 0) → (List ℕ → Option (List ℕ) → Type 0) → Type 0
Stays before after = (path : List ℕ) (found : Option (List ℕ)) → after path found → before path found
