-- A range as rows, with the first row as headers where they are asked for.
use Rattle.std.specs.Prelude.{◌+◌, ℕ, List, [], ◌∷◌, map, Option, Some, None, Result, Ok, Err, Bool, true, false, if◌then◌else◌}
use Rattle.std.specs.String.{string_bytes}
use Rattle.xls_data.specs.Content.{Content}
use Rattle.xls_range.specs.Grid.{Grid}
use Rattle.xls_range.specs.Lists.{rows_of}
use Rattle.xls_rows.specs.Refusals.{Refusal}
use Rattle.xls_rows.specs.Readers.{text_read}
use Rattle.xls_rows.specs.Rows.{Row, row_of, all_read}
use Rattle.xls_rows.specs.Choices.{Choice, unnamed, every, wanted}
use Rattle.xls_rows.specs.Columns.{numbers_from, columns_of}
use Rattle.xls_rows.specs.declared.builder.Headers.{Headers}
use Rattle.xls_rows.specs.declared.builder.Headers.TheVariants as headers

-- the choice that the headers say
abbrev pub choice_of : Headers → Choice
choice_of headers.None = unnamed
choice_of headers.All = every
choice_of (headers.Custom names) = wanted (map string_bytes names.now)

-- rows from a row's number on, with the same first column
abbrev pub rows_from : {T : Type 0} → Option (List (List ℕ)) → List ℕ → ℕ → ℕ → List (List T)
    → List (Row T)
rows_from headers indexes top left [] = []
rows_from headers indexes top left (cells ∷ others) =
    row_of headers indexes cells (top, left) ∷ rows_from headers indexes (top + 1) left others

-- the columns that are read
abbrev pub columns_by : Choice → ℕ → List (List ℕ) → Result (List ℕ) Refusal
columns_by (wanted names) width headers = columns_of headers names
columns_by choice width headers = Ok (numbers_from 0 width)

-- the rows of columns, or the refusal of these
abbrev pub rows_by : {T : Type 0} → Option (List (List ℕ)) → Result (List ℕ) Refusal → ℕ → ℕ
    → List (List T) → Result (List (Row T)) Refusal
rows_by headers (Err r) top left others = Err r
rows_by headers (Ok indexes) top left others = Ok (rows_from headers indexes top left others)

-- the rows after the first one, by its texts as headers, or the refusal of these
abbrev pub rows_after : {T : Type 0} → Choice → ℕ → Result (List (List ℕ)) Refusal → ℕ → ℕ
    → List (List T) → Result (List (Row T)) Refusal
rows_after choice width (Err r) top left others = Err r
rows_after choice width (Ok headers) top left others =
    rows_by (Some headers) (columns_by choice width headers) top left others

-- the rows by headers, which the first row has as its printed texts; no rows have no headers
abbrev pub named_rows : {T : Type 0} → Choice → (T → Content) → ℕ → ℕ → ℕ → List (List T)
    → Result (List (Row T)) Refusal
named_rows choice content width top left [] = Ok []
named_rows choice content width top left (first ∷ others) =
    rows_after choice width (all_read (text_read (top, left)) (map content first)) (top + 1) left
    others

-- whether the columns have no headers
abbrev pub is_unnamed : Choice → Bool
is_unnamed unnamed = true
is_unnamed choice = false

-- the rows that a range is read as, or the refusal
abbrev pub rows_read : {T : Type 0} → Choice → (T → Content) → Grid T
    → Result (List (Row T)) Refusal
rows_read choice content g =
    if is_unnamed choice
    then Ok (rows_from None (numbers_from 0 g.width) g.top g.left
    (rows_of g.height g.width g.cells))
    else named_rows choice content g.width g.top g.left (rows_of g.height g.width g.cells)
