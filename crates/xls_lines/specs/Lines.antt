-- Lines of text in UTF-8: a word and the fields after it, separated by a tab, ended by a newline.
use Rattle.std.specs.Prelude.{ℕ, List, [], ◌∷◌, ◌++◌, Option, Some, None, codes}
use Rattle.std.specs.List.{flat_map}
use Rattle.std.specs.Fmt.{decimal, signed_decimal}
use Rattle.std.specs.Str.{chars}
use Rattle.xls_data.specs.Errors as cell_errors
use Rattle.xls_dates.specs.Numbers.{number_text}
use Rattle.xls_record.specs.ErrorText.{error_text}
use Rattle.xls_lines.specs.declared.field.Field.{Field}
use Rattle.xls_lines.specs.declared.field.Field.TheVariants.{Word, Text, Number, Int, Fraction, Failure, Fault}
pub use Rattle.xls_bytes.specs.Escapes.{escaped_char, escaped, escaped_text}

-- ---- lines

-- a field after a tab
abbrev pub tabbed : List ℕ → List ℕ
tabbed field = codes "\t" ++ field

-- a word, and the fields after it
abbrev pub line : List ℕ → List (List ℕ) → List ℕ
line word fields = word ++ (flat_map tabbed fields ++ codes "\n")

-- ---- fields

-- what a field prints: a word as it is, a text escaped, a number, the text of an error
abbrev pub field_text : Field → List ℕ
field_text (Word word) = word.now
field_text (Text text) = escaped_text (chars text.now)
field_text (Number n) = decimal n
field_text (Int n) = signed_decimal n
field_text (Fraction n) = number_text n
field_text (Failure e) = cell_errors.error_text e
field_text (Fault e) = error_text e.now

-- the same after a tab
abbrev pub tabbed_field : Field → List ℕ
tabbed_field field = tabbed (field_text field)

-- ---- cells

-- row and column of a cell with the kind of its value and its printed text; a blank has no line
abbrev pub filled_line : ℕ → ℕ → Option (List ℕ × List ℕ) → List ℕ
filled_line row column None = []
filled_line row column (Some v) =
    line (codes "cell") (decimal row ∷ decimal column ∷ v.0 ∷ v.1 ∷ [])
