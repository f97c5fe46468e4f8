-- Constants in the text of a formula as Excel shows it, as lists of characters. A number is xls_rounding's formula_number.
use Rattle.std.specs.Prelude.{ℕ, ◌+◌, ◌%◌, List, [], ◌∷◌, ◌++◌, ◌==◌, if◌then◌else◌, codes, Bool, Option, Result}
use Rattle.std.specs.List.{flat_map}
use Rattle.xls_text.specs.Pages.{string_text}
use Rattle.xls_text.specs.declared.encoding.XlsEncoding.{XlsEncoding}
use Rattle.xls_record.specs.declared.version.Biff.{Biff}
use Rattle.xls_rounding.specs.FormulaNumbers.{formula_number}
use Rattle.xls_formula.specs.Words.{bool_word, err_text}
use Rattle.xls_shown_ptg.specs.Arrays.{ConstantArray, array_at}
use Rattle.xls_shown_ptg.specs.Reading.{gives}
use Rattle.xls_shown_ptg.specs.declared.arrays.SerAr.{SerAr}
use Rattle.xls_shown_ptg.specs.declared.arrays.SerAr.TheVariants as sers
use Rattle.xls_shown_ptg.specs.declared.fault.Fault.{Fault}

-- ---- strings

-- a quote twice, another character once
abbrev pub doubled_one : ℕ → List ℕ
doubled_one c = if c == 0x22 then 0x22 ∷ 0x22 ∷ [] else c ∷ []

abbrev pub doubled : List ℕ → List ℕ
doubled cs = flat_map doubled_one cs

-- in quotes
abbrev pub quoted : List ℕ → List ℕ
quoted cs = 0x22 ∷ (doubled cs ++ (0x22 ∷ []))

-- so many units: of one byte or two (fHighByte), or before BIFF8 bytes in the page
abbrev pub str_text : XlsEncoding → Option Bool → List ℕ → ℕ → List ℕ
str_text page high units cch = quoted (string_text page high units cch)

-- ---- constant arrays ([MS-XLS] PtgExtraArray)

abbrev pub ser_text : XlsEncoding → SerAr (List ℕ) → List ℕ
ser_text page sers.Nil = []
ser_text page (sers.Num bits) = formula_number bits
ser_text page (sers.Str units cch high) = str_text page high units cch
ser_text page (sers.Bool truth) = bool_word truth
ser_text page (sers.Err error) = err_text error

-- before value i of rows of so many columns: `,` in a row, `;` between rows
abbrev pub separator : ℕ → ℕ → List ℕ
separator columns i =
    if i == 0 then [] else if i % columns == 0 then codes ";" else codes ","

-- values from value i on
abbrev pub values_text : XlsEncoding → ℕ → ℕ → List (SerAr (List ℕ)) → List ℕ
values_text page columns i [] = []
values_text page columns i (v ∷ vs) =
    separator columns i ++ (ser_text page v ++ values_text page columns (i + 1) vs)

abbrev pub array_text : XlsEncoding → ConstantArray → List ℕ
array_text page a = codes "{" ++ (values_text page a.columns 0 a.values ++ codes "}")

-- the array that extra bytes begin with, and the bytes behind it
abbrev pub array_text_at : XlsEncoding → Biff → List ℕ → Result (List ℕ × List ℕ) Fault
array_text_at page biff extra = gives (λ x. (array_text page x.0, x.1)) (array_at biff extra)
