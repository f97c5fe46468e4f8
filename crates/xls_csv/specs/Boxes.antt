-- The text of a box: the fields of a row with a delimiter between two, and the rows one after another.
use Rattle.std.specs.Prelude.{◌≡◌, ◌⊎◌, ℕ, ◌==◌, if◌then◌else◌, Bool, List, [], ◌∷◌, ◌++◌, length, take, codes, Option, Some, None, Result, MatchResult}
use Rattle.std.specs.Borrow.{Bor}
use Rattle.xls_output.specs.Each.{Concatenates, GathersEach}
use Rattle.xls_output.specs.Output.{GivesUp, Output}
use Rattle.xls_output.specs.declared.stop.Stop.{Stop}
use Rattle.xls_view.specs.Viewing.{Viewed}
use Rattle.xls_csv.specs.Walk.{Formatted}

-- the workbook whose formats are lent
abbrev pub lent_view : Option (Bor Viewed) → Option Viewed
lent_view None = None
lent_view (Some formats) = Some formats.now

-- a form of fields: the byte between two, and which text is the field of what a cell shows
pub record FieldForm : Type 1 where
  pub delimiter : ℕ
  pub IsField : Formatted → List ℕ → Type 0

-- a field after a delimiter
abbrev pub IsSeparated : FieldForm → Formatted → List ℕ → Type 0
IsSeparated form value text = (field : List ℕ) × form.IsField value field × (text ≡ form.delimiter ∷ field)

-- the fields of a row, with a delimiter between two
abbrev pub IsFields : FieldForm → List Formatted → List ℕ → Type 0
IsFields form [] text = text ≡ []
IsFields form (value ∷ values) text =
    (field others : List ℕ) × form.IsField value field × Concatenates (IsSeparated form) values others
    × (text ≡ field ++ others)

-- the end of a row: a newline, and where no byte stands before it, two quotes first, its one empty field
abbrev pub row_end : Bool → List ℕ
row_end is_bare = (if is_bare then codes "\"\"" else []) ++ codes "\n"

-- a row, with its end
abbrev pub IsRow : FieldForm → List Formatted → List ℕ → Type 0
IsRow form values text =
    (fields : List ℕ) × IsFields form values fields × (text ≡ fields ++ row_end (length fields == 0))

-- the rows of a box, one after another
abbrev pub IsBox : FieldForm → List (List Formatted) → List ℕ → Type 0
IsBox form rows text = Concatenates (IsRow form) rows text

-- ---- a part of a box

-- the first so many fields of a row
abbrev pub BeginsRow : FieldForm → List Formatted → List ℕ → Type 0
BeginsRow form values text = (count : ℕ) × IsFields form (take count values) text

-- the first rows, all of them or some, and the first fields of the next one
abbrev pub BeginsBox : FieldForm → List (List Formatted) → List ℕ → Type 0
BeginsBox form [] text = text ≡ []
BeginsBox form (row ∷ rows) text =
    BeginsRow form row text
    ⊎ ((first others : List ℕ) × IsRow form row first × BeginsBox form rows others × (text ≡ first ++ others))

-- ---- boxes that are put

-- a prefix of what was kept and of a part of a box was written, and then it was given up
abbrev pub GivesUpBox : FieldForm → List (List Formatted) → Output → Output → Stop → Type 0
GivesUpBox form rows before after e =
    (text : List ℕ) × BeginsBox form rows text × GivesUp before after text e

-- a box was gathered, or that
abbrev pub PutsBox : {X : Type 0} → FieldForm → List (List Formatted) → Output → Output → Result X Stop → Type 0
PutsBox form rows before after result =
    MatchResult result (λ _. GathersEach (IsRow form) rows before after) (GivesUpBox form rows before after)
