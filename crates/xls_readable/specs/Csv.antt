-- Rows of CSV in UTF-8, by RFC 4180, section 2, with any delimiter and a newline at a row's end.
use Rattle.std.specs.Prelude.{◌≡◌, ℕ, ◌==◌, ◌||◌, ◌&&◌, nat_lt, not, if◌then◌else◌, Bool, List, [], ◌∷◌, ◌++◌, length, codes}
use Rattle.std.specs.List.{flat_map, list_any}
use Rattle.xls_readable.specs.declared.values.Value.{Value}
use Rattle.xls_readable.specs.Values.{IsFieldText}

-- a quote, a newline and a return
abbrev pub is_special : ℕ → Bool
is_special b = (b == 0x22) || ((b == 0x0D) || (b == 0x0A))

-- a delimiter is any other byte of ASCII
abbrev pub is_delimiter : ℕ → Bool
is_delimiter b = nat_lt b 0x80 && not (is_special b)

-- a byte that puts its field into quotes
abbrev pub is_marked : ℕ → ℕ → Bool
is_marked delimiter b = (b == delimiter) || is_special b

-- a quote is doubled
abbrev pub doubled_byte : ℕ → List ℕ
doubled_byte b = if b == 0x22 then 0x22 ∷ 0x22 ∷ [] else b ∷ []

abbrev pub doubled : List ℕ → List ℕ
doubled text = flat_map doubled_byte text

abbrev pub quoted : List ℕ → List ℕ
quoted text = 0x22 ∷ (doubled text ++ 0x22 ∷ [])

-- a field, in quotes where a byte of it calls for them
abbrev pub csv_field : ℕ → List ℕ → List ℕ
csv_field delimiter text = if list_any (is_marked delimiter) text then quoted text else text

-- fields, each after a delimiter
abbrev pub separated : ℕ → List (List ℕ) → List ℕ
separated delimiter fields = flat_map (λ field. delimiter ∷ csv_field delimiter field) fields

-- fields with a delimiter between two
abbrev pub joined : ℕ → List (List ℕ) → List ℕ
joined delimiter [] = []
joined delimiter (field ∷ fields) = csv_field delimiter field ++ separated delimiter fields

-- the end of a row: where no byte stands before it, two quotes are its one empty field
abbrev pub row_end : Bool → List ℕ
row_end is_empty = if is_empty then codes "\"\"\n" else codes "\n"

-- a row of fields
abbrev pub csv_row : ℕ → List (List ℕ) → List ℕ
csv_row delimiter fields = joined delimiter fields ++ row_end (length (joined delimiter fields) == 0)

-- ---- values

-- the field of a value
abbrev pub IsField : ℕ → Value → List ℕ → Type 0
IsField delimiter value field =
    (text : List ℕ) × IsFieldText value text × (field ≡ csv_field delimiter text)

-- the same after a delimiter
abbrev pub IsSeparated : ℕ → Value → List ℕ → Type 0
IsSeparated delimiter value field =
    (text : List ℕ) × IsFieldText value text × (field ≡ delimiter ∷ csv_field delimiter text)

-- the texts of values, in their order
abbrev pub AreValueTexts : List Value → List (List ℕ) → Type 0
AreValueTexts [] [] = Unit {0}
AreValueTexts (value ∷ values) (text ∷ texts) = IsFieldText value text × AreValueTexts values texts
AreValueTexts values texts = ⊥

-- the fields of values, with a delimiter between two
abbrev pub IsJoined : ℕ → List Value → List ℕ → Type 0
IsJoined delimiter values text =
    (texts : List (List ℕ)) × AreValueTexts values texts × (text ≡ joined delimiter texts)

-- the row of values
abbrev pub IsRow : ℕ → List Value → List ℕ → Type 0
IsRow delimiter values row =
    (texts : List (List ℕ)) × AreValueTexts values texts × (row ≡ csv_row delimiter texts)
