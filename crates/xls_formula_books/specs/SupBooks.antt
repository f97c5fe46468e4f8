-- SupBook ([MS-XLS] 2.4.271) of BIFF8: the count of the sheets at 0, and at 2 the count 0401 (this workbook), the count 3A01 (added
-- functions), or a string, the path, with the sheets' names behind it.
use Rattle.std.specs.Prelude.{ℕ, List, take, drop, length, nat_lt, ◌==◌, if◌then◌else◌, Option, Some, None}
use Rattle.xls_bytes.specs.Numbers.{le}
use Rattle.std.specs.Char.Utf16.{utf16_lossy_chars}
use Rattle.xls_stream.specs.StringTable.{Mark, marked}
use Rattle.xls_other_books.specs.declared.types.TheConstants.{THIS_WORKBOOK, ADDED_FUNCTIONS}
use Rattle.xls_other_books.specs.Strings.{Texts, string_at, texts_at}
use Rattle.xls_formula_books.specs.declared.sources.Kind.TheVariants as kinds
use Rattle.xls_formula_books.specs.Sources.{Source, bare, with_sheets}
use Rattle.xls_formula_books.specs.Paths.{path_source}

-- by a path and the sheets of which all are there, or the first ones
abbrev pub linked : List ℕ → Texts → Source
linked path sheets = with_sheets sheets.0 (path_source path)

-- by the units of the path and what stands behind it
abbrev pub by_strings : ℕ → Option (List ℕ × List Mark) → Source
by_strings count None = bare kinds.Nothing
by_strings count (Some x) = linked (utf16_lossy_chars x.0) (texts_at count x.1)

-- by a body of four bytes or more, and its bytes from the third on with those of Continue records
abbrev pub by_count : List ℕ → List Mark → Source
by_count body marks =
    if le (take 2 (drop 2 body)) == THIS_WORKBOOK then bare kinds.This
    else if le (take 2 (drop 2 body)) == ADDED_FUNCTIONS then bare kinds.Functions
    else by_strings (le (take 2 body)) (string_at marks)

-- by its body and the bodies of the Continue records behind it
abbrev pub sup_book : List ℕ → List (List ℕ) → Source
sup_book body bodies = if nat_lt (length body) 4 then bare kinds.Nothing else by_count body (marked (drop 2 body) bodies)
