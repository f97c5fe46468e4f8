-- What a formula may name, and how its tokens are read.
use Rattle.std.specs.Prelude.{ℕ, ◌-◌, ℤ, pos, negsuc, List, ◌==◌, if◌then◌else◌, codes, slice_get, Option, Some, None}
use Rattle.xls_text.specs.declared.encoding.XlsEncoding.{XlsEncoding}
use Rattle.xls_record.specs.declared.version.Biff.{Biff}
use Rattle.xls_formula.specs.Functions.{Function}
use Rattle.xls_formula.specs.declared.numbers.NumberStyle.{NumberStyle}

-- names of the sheets, defined names with their texts, the numbers of the references' sheets, code
-- page, version, functions by index, and how doubles are shown; texts as lists of characters
pub record Context : Type 0 where
  pub sheets : List (List ℕ)
  pub names : List (List ℕ × List ℕ)
  pub refs : List ℤ
  pub page : XlsEncoding
  pub biff : Biff
  pub functions : List Function
  pub numbers : NumberStyle

-- ---- sheets

abbrev pub known_sheet : Option (List ℕ) → List ℕ
known_sheet (Some name) = name
known_sheet None = codes "#REF"

abbrev pub numbered_sheet : List (List ℕ) → Option ℤ → List ℕ
numbered_sheet sheets (Some (pos n)) = known_sheet (slice_get sheets n)
numbered_sheet sheets (Some (negsuc n)) = codes "#REF"
numbered_sheet sheets None = codes "#REF"

-- the sheet whose number a reference holds, and `#REF` where either is missing or negative
abbrev pub sheet_text : Context → ℕ → List ℕ
sheet_text context index = numbered_sheet context.sheets (slice_get context.refs index)

-- ---- names

abbrev pub known_name : Option (List ℕ × List ℕ) → List ℕ
known_name (Some name) = name.0
known_name None = codes "#REF!"

-- the name of an index, which counts from 1
abbrev pub name_text : Context → ℕ → List ℕ
name_text context index =
    if index == 0 then codes "#REF!" else known_name (slice_get context.names (index - 1))
