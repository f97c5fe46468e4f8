-- What stands before the `!` of a reference to other sheets (ECMA-376 part 1, 18.17.2). Texts are lists of characters.
use Rattle.std.specs.Prelude.{ℕ, Bool, true, false, not, ◌||◌, ◌==◌, List, [], ◌∷◌, ◌++◌, if◌then◌else◌, codes}
use Rattle.std.specs.List.{flat_map}
use Rattle.std.specs.Str.{chars}
use Rattle.xls_formula_names.specs.Quotes.{needs_quotes}
use Rattle.xls_formula_names.specs.declared.sheets.Sheets.{Sheets}
use Rattle.xls_formula_names.specs.declared.sheets.Sheets.TheVariants.{Gone, One, Range}

-- an apostrophe twice, any other character once
abbrev pub doubled_one : ℕ → List ℕ
doubled_one c = if c == 0x27 then 0x27 ∷ 0x27 ∷ [] else c ∷ []

abbrev pub doubled : List ℕ → List ℕ
doubled cs = flat_map doubled_one cs

-- between apostrophes
abbrev pub quoted : List ℕ → List ℕ
quoted cs = 0x27 ∷ doubled cs ++ 0x27 ∷ []

abbrev pub in_quotes : Bool → List ℕ → List ℕ
in_quotes needed cs = if needed then quoted cs else cs

-- a name by itself
abbrev pub name_text : List ℕ → List ℕ
name_text cs = in_quotes (needs_quotes cs) cs

-- the sheets that a reference names: none that is there, one, or all from one to another
pub data Named : Type 0 where
  gone : Named
  one : (name : List ℕ) → Named
  range : (first last : List ℕ) → Named

-- `First`, `First:Last`, and `#REF` for a sheet that is gone
abbrev pub sheets_text : Named → List ℕ
sheets_text gone = codes "#REF"
sheets_text (one name) = name
sheets_text (range first last) = first ++ 0x3A ∷ last

-- one of the names needs quotes; `#REF` doesn't
abbrev pub sheets_need_quotes : Named → Bool
sheets_need_quotes gone = false
sheets_need_quotes (one name) = needs_quotes name
sheets_need_quotes (range first last) = needs_quotes first || needs_quotes last

abbrev pub sheets_prefix : Named → List ℕ
sheets_prefix sheets = in_quotes (sheets_need_quotes sheets) (sheets_text sheets)

-- ---- Other workbooks, by their folder and file

abbrev pub is_nothing : List ℕ → Bool
is_nothing [] = true
is_nothing (c ∷ cs) = false

-- a folder always needs quotes
abbrev pub book_needs_quotes : List ℕ → List ℕ → Bool
book_needs_quotes dir file = not (is_nothing dir) || needs_quotes file

-- the path alone, before a name of the book
abbrev pub file_prefix : List ℕ → List ℕ → List ℕ
file_prefix dir file = in_quotes (book_needs_quotes dir file) (dir ++ file)

-- `DIR[FILE]`, and the sheets
abbrev pub book_text : List ℕ → List ℕ → Named → List ℕ
book_text dir file sheets = dir ++ (codes "[" ++ (file ++ (codes "]" ++ sheets_text sheets)))

abbrev pub book_prefix : List ℕ → List ℕ → Named → List ℕ
book_prefix dir file sheets =
    in_quotes (book_needs_quotes dir file || sheets_need_quotes sheets) (book_text dir file sheets)

-- ---- for the contracts

-- the sheets as a reference in code names them
abbrev pub named : Sheets → Named
named Gone = gone
named (One name) = one (chars name.now)
named (Range first last) = range (chars first.now) (chars last.now)
