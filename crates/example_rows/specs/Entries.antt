-- Entries as they are read from rows. Rows count from 0.
use Rattle.std.specs.Prelude.{ℕ, List, ◌∷◌, ◌++◌, codes, Result, Ok, Err}
use Rattle.std.specs.Fmt.{decimal}
use Rattle.std.specs.String.{string_bytes}
use Rattle.xls_data.specs.Content.{Content, int, float}
use Rattle.xls_dates.specs.declared.numbers.Number.{Number}
use Rattle.xls_dates.specs.declared.numbers.Number.TheVariants.{Whole}
use Rattle.xls_rows.specs.Refusals.{Refusal, end_of_row, custom, Gives}
use Rattle.xls_rows.specs.Readers.{text_read, data_in}
use Rattle.xls_rows.specs.Rows.{Row, contents_of}
use Rattle.xls_rows.specs.declared.error.DeError.{DeError}
use Rattle.example_rows.specs.declared.entry.Entry.{Entry}

-- what follows where something is read
infixl 10 ◌>>=◌
abbrev pub ◌>>=◌ : {A B : Type 0} → Result A Refusal → (A → Result B Refusal) → Result B Refusal
(Ok x) >>= f = f x
(Err r) >>= f = Err r

-- the refusal of an amount that is no number
abbrev pub no_number : ℕ → Refusal
no_number row = custom (codes "row " ++ (decimal row ++ codes ": the amount isn't a number"))

-- the number that a cell of a row holds
abbrev pub number_in : ℕ → Content → Result Number Refusal
number_in row (int n) = Ok (Whole n)
number_in row (float x) = Ok x
number_in row c = Err (no_number row)

-- the printed text of the first cell and the number of the second, or the refusal of the first of them
-- that is wrong
abbrev pub pair_in : ℕ × ℕ → Content → Content → Result (List ℕ × Number) Refusal
pair_in place name amount = do
  text ← text_read place name
  copy ← data_in place amount
  number ← number_in place.0 copy
  Ok (text, number)

-- the same of the cells of a row; fewer than two are too few
abbrev pub entry_in : ℕ × ℕ → List Content → Result (List ℕ × Number) Refusal
entry_in place (name ∷ amount ∷ others) = pair_in place name amount
entry_in place cells = Err (end_of_row place)

-- the bytes of the name, and the amount
abbrev pub parts_of : Entry → List ℕ × Number
parts_of entry = (string_bytes entry.name, entry.amount)

-- the answer is that of the exposed cells, or their refusal, or out of memory
abbrev pub ReadsEntry : {T : Type 0} → (T → Content) → Row T → Result Entry DeError → Type 0
ReadsEntry content row answer =
    Gives parts_of answer (entry_in row.place (contents_of content row.exposed))
