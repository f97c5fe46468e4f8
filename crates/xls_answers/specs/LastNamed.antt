-- The last sheet of a name.
use Rattle.std.specs.Prelude.{ℕ, ◌+◌, ◌==◌, if◌then◌else◌, List, [], ◌∷◌, Option, Some, None}
use Rattle.std.specs.Cmp.Lexicographic.{pointwise}
use Rattle.std.specs.Option.{option_or}
use Rattle.xls_data.specs.Sheets.{SheetContent}

-- the index of the last sheet of a name, where these sheets have the indices from n on
abbrev pub last_named_from : ℕ → List ℕ → List SheetContent → Option ℕ
last_named_from n name [] = None
last_named_from n name (s ∷ ss) =
    option_or (last_named_from (n + 1) name ss) (if pointwise ◌==◌ s.name name then Some n else None)
