-- The number formats of a workbook: the identifier of each XF, and the codes.
use Rattle.std.specs.Prelude.{ℕ, List, [], ◌∷◌, ◌==◌, if◌then◌else◌, slice_get, unwrap_or, Option, Some, None}
use Rattle.std.specs.Option.{option_or}

-- the format identifier (ifmt) of the XF of an index, and 0, which is General, where no XF has the index
abbrev pub identifier_at : List ℕ → ℕ → ℕ
identifier_at identifiers xf = unwrap_or (slice_get identifiers xf) 0

-- the code of the last of these formats that has the identifier
abbrev pub last_code : List (ℕ × List ℕ) → ℕ → Option (List ℕ)
last_code [] ifmt = None
last_code (f ∷ fs) ifmt = option_or (last_code fs ifmt) (if f.0 == ifmt then Some f.1 else None)
