-- The fields of a line, and lines of them as text: exact, and as people read them. In UTF-8.
use Rattle.std.specs.Prelude.{◌≡◌, ℕ, ℤ, Bool, List, [], ◌++◌, codes}
use Rattle.std.specs.Fmt.{decimal, signed_decimal}
use Rattle.std.specs.List.{flat_map}
use Rattle.std.specs.Str.{chars}
use Rattle.xls_bytes.specs.Escapes.{escaped_text}
use Rattle.xls_data.specs.Data.{bool_text}
use Rattle.xls_dates.specs.Dates.{DateParts}
use Rattle.xls_data.specs.Errors.{error_text}
use Rattle.xls_data.specs.declared.errors.CellErrorType.{CellErrorType}
use Rattle.xls_dates.specs.Numbers.{number_text}
use Rattle.xls_dates.specs.declared.numbers.Number.{Number}
use Rattle.xls_decimals.specs.Decimals.{IsDecimal}
use Rattle.xls_decimals.specs.Moments.{IsDateOrDuration}
use Rattle.xls_readable.specs.declared.items.Field.{Field}
use Rattle.xls_readable.specs.declared.items.Field.TheVariants as field
use Rattle.xls_readable.specs.declared.items.Member.{Member}
use Rattle.xls_output.specs.Each.{Concatenates}

-- what a field holds: a word as it is, a text, a count, a whole number, a number, a
-- truth value, a date or a duration, an error value, or what isn't known
pub data FieldItem : Type 0 where
  word : List ℕ → FieldItem
  text : List ℕ → FieldItem
  count : ℕ → FieldItem
  int : ℤ → FieldItem
  number : Number → FieldItem
  truth : Bool → FieldItem
  moment : DateParts → FieldItem
  failure : CellErrorType → FieldItem
  unknown : FieldItem

abbrev pub item_of : Field → FieldItem
item_of (field.Word w) = word w.now
item_of (field.Text t) = text t.now
item_of (field.Count n) = count n
item_of (field.Int n) = int n
item_of (field.Number n) = number n
item_of (field.Truth b) = truth b
item_of (field.Moment d) = moment d
item_of (field.Failure e) = failure e
item_of field.Unknown = unknown

-- a name and what the field of that name holds
abbrev pub NamedItem : Type 0
NamedItem = List ℕ × FieldItem

abbrev pub named_of : Member → NamedItem
named_of m = (m.name.now, item_of m.field)

-- ---- exact lines

-- the exact text of a field: a number, also that of a date or a duration, as the workbook has it; texts
-- escaped
abbrev pub exact_text : FieldItem → List ℕ
exact_text (word w) = w
exact_text (text t) = escaped_text (chars t)
exact_text (count n) = decimal n
exact_text (int n) = signed_decimal n
exact_text (number n) = number_text n
exact_text (truth b) = bool_text b
exact_text (moment d) = number_text d.number
exact_text (failure e) = error_text e
exact_text unknown = []

-- the same after a tab
abbrev pub exact_tabbed : NamedItem → List ℕ
exact_tabbed m = codes "\t" ++ exact_text m.1

-- a word and the fields after it, each after a tab, and a newline
abbrev pub exact_line : List ℕ → List NamedItem → List ℕ
exact_line kind members = kind ++ (flat_map exact_tabbed members ++ codes "\n")

-- ---- lines as people read them

-- the text of a field: numbers in decimal, dates and durations as xls_decimals has
-- them, every other one as it is exactly
abbrev pub IsItemText : FieldItem → List ℕ → Type 0
IsItemText (number n) out = IsDecimal n out
IsItemText (moment d) out = IsDateOrDuration d out
IsItemText other out = out ≡ exact_text other

-- the same after a tab
abbrev pub IsTabbed : NamedItem → List ℕ → Type 0
IsTabbed m out = (displayed : List ℕ) × IsItemText m.1 displayed × (out ≡ codes "\t" ++ displayed)

-- a word and the fields after it, each after a tab, and a newline
abbrev pub IsTextLine : List ℕ → List NamedItem → List ℕ → Type 0
IsTextLine kind members out =
    (fields : List ℕ) × Concatenates IsTabbed members fields × (out ≡ kind ++ (fields ++ codes "\n"))
