-- The texts of cells and of refusals, as bytes in UTF-8.
use Rattle.std.specs.Prelude.{ℕ, List, [], ◌++◌, codes, encode_utf8_all}
use Rattle.std.specs.Fmt.{signed_decimal}
use Rattle.xls_data.specs.Content.{Content, int, float, text, truth, date, iso_date, iso_duration, failure, nothing}
use Rattle.xls_data.specs.Data.{bool_text}
use Rattle.xls_data.specs.Errors.{error_text}
use Rattle.xls_dates.specs.Numbers.{number_text}

-- what a cell prints
abbrev pub printed : Content → List ℕ
printed (int n) = signed_decimal n
printed (float x) = number_text x
printed (text cs) = encode_utf8_all cs
printed (truth b) = bool_text b
printed (date d) = number_text d.number
printed (iso_date cs) = encode_utf8_all cs
printed (iso_duration cs) = encode_utf8_all cs
printed (failure e) = error_text e
printed nothing = []

-- the name of a cell's kind
abbrev pub kind_name : Content → List ℕ
kind_name (int n) = codes "Int"
kind_name (float x) = codes "Float"
kind_name (text cs) = codes "String"
kind_name (truth b) = codes "Bool"
kind_name (date d) = codes "DateTime"
kind_name (iso_date cs) = codes "DateTimeIso"
kind_name (iso_duration cs) = codes "DurationIso"
kind_name (failure e) = codes "Error"
kind_name nothing = codes "Empty"

-- what was expected, and what there is
abbrev pub expecting : List ℕ → List ℕ → List ℕ
expecting what got = ((codes "Expecting " ++ what) ++ codes ", got ") ++ got

-- the same of a text, in quotes
abbrev pub quoted : List ℕ → List ℕ
quoted bytes = (codes "'" ++ bytes) ++ codes "'"

-- what a cell that is no whole number of a type is shown as: a text in quotes, a number, or a kind
abbrev pub display_text : Content → List ℕ
display_text (int n) = signed_decimal n
display_text (float x) = number_text x
display_text (text cs) = quoted (encode_utf8_all cs)
display_text c = kind_name c
