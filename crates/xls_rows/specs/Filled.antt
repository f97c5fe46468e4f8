-- The first column whose cell is not empty.
use Rattle.std.specs.Prelude.{◌≡◌, ℕ, List, [], ◌∷◌, Option, Some, None, Bool}
use Rattle.std.specs.Borrow.{Bor}
use Rattle.xls_rows.specs.Rows.{exposed_of, from_filled, header_at}

-- the answer is the first of the columns whose cell is not empty, that cell, and the columns after
abbrev pub IsFirstFilled : {T : Type 0} → (T → Bool) → Option (List (List ℕ)) → List T → List ℕ
    → Option (ℕ × Bor T × Bor (List ℕ)) → Type 0
IsFirstFilled empty headers cells indexes None =
    from_filled empty (exposed_of headers cells indexes) ≡ []
IsFirstFilled empty headers cells indexes (Some p) =
    from_filled empty (exposed_of headers cells indexes)
    ≡ record { column = p.0; header = header_at headers p.0; value = p.1.now }
    ∷ exposed_of headers cells p.2.now
