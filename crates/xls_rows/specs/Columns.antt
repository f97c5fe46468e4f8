-- Columns by their headers.
use Rattle.std.specs.Prelude.{◌+◌, ℕ, zero, suc, List, [], ◌∷◌, Option, Some, None, Result, Ok, Err}
use Rattle.std.specs.List.{position_from}
use Rattle.std.specs.Str.{bytes_eq, trim}
use Rattle.xls_rows.specs.Refusals.{Refusal, no_header}
use Rattle.xls_rows.specs.Rows.{all_read}

-- so many numbers from a first one
abbrev pub numbers_from : ℕ → ℕ → List ℕ
numbers_from first zero = []
numbers_from first (suc n) = first ∷ numbers_from (first + 1) n

-- the first column with a header, trimmed
abbrev pub column_of : List (List ℕ) → List ℕ → Option ℕ
column_of headers name = position_from (λ h. bytes_eq (trim h) name) 0 headers

-- a column, or the header that is in none
abbrev pub column_or : List ℕ → Option ℕ → Result ℕ Refusal
column_or name (Some i) = Ok i
column_or name None = Err (no_header name)

-- the column of a wanted header, or that header, trimmed, where it is in no column
abbrev pub wanted_column : List (List ℕ) → List ℕ → Result ℕ Refusal
wanted_column headers name = column_or (trim name) (column_of headers (trim name))

-- the columns of wanted headers, or the first of these, trimmed, that is in no column
abbrev pub columns_of : List (List ℕ) → List (List ℕ) → Result (List ℕ) Refusal
columns_of headers names = all_read (wanted_column headers) names
