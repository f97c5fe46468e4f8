-- What the code has of a record's cells, for the proofs.
use Rattle.std.specs.Prelude.{ℕ, List, [], ◌∷◌, Option, Some, None}
use Rattle.xls_view.specs.Formats.{FormattedCell}
use Rattle.xls_view.specs.Placed.{FormattedPlace}

abbrev pub listed_formatted : Option FormattedCell → List FormattedCell
listed_formatted None = []
listed_formatted (Some c) = c ∷ []

-- the place of a cell whose record begins at this offset of its part
abbrev pub place_of : ℕ → FormattedCell → FormattedPlace
place_of offset c = (c.0, record { offset = offset; xf = c.1.1 })
