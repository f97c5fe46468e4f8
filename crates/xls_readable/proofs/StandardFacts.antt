-- Values that RFC 4180, RFC 8259 and the manual of xls_dump give, so that a wrong rule in the specs
-- does not check.
use Rattle.std.proofs.Common.{◌≡◌, ℕ, pos, negsuc, List, ◌∷◌, ◌++◌, [], map, true, false, refl}
use Rattle.std.specs.Prelude.{codes}
use Rattle.std.specs.Fmt.{digits}
use Rattle.std.specs.Str.{chars}
use Rattle.json.specs.Print.{escape_byte, quoted}
use Rattle.xls_dates.specs.declared.dates.ExcelDateTimeType.TheVariants.{DateTime, TimeDelta}
use Rattle.xls_data.specs.declared.errors.CellErrorType.TheVariants.{NA}
use Rattle.xls_bytes.specs.Doubles.{size_of_parts}
use Rattle.xls_dates.specs.Numbers.{sixteen_digits}
use Rattle.xls_dates.specs.declared.numbers.Number.TheVariants.{Bits, Whole, Hundredths, BitsOver100}
use Rattle.xls_data.specs.declared.regions.Dimensions.{Dimensions}
use Rattle.xls_data.specs.declared.sheets.SheetType.TheVariants as types
use Rattle.xls_data.specs.declared.sheets.SheetVisible.TheVariants as states
use Rattle.xls_readable.specs.declared.forms.Form.TheVariants.{Text, Json, Exact}
use Rattle.xls_readable.specs.declared.properties.Property.TheVariants as property
use Rattle.xls_output.specs.Each.{Concatenates}
use Rattle.xls_readable.specs.Values.{truth_text}
use Rattle.xls_readable.specs.Csv.{is_delimiter, is_marked, csv_field, csv_row}
use Rattle.xls_readable.specs.Items.{FieldItem, NamedItem, IsItemText, IsTabbed, exact_text, word, text, count, int, number, truth, moment, failure, unknown}
use Rattle.xls_readable.specs.Json.{IsItemJson, IsMember}
use Rattle.xls_readable.specs.Lines.{
  IsLine,
  year_text,
  type_text,
  visible_text,
  moment_kind,
  dates_members,
  name_members,
  sheet_members,
  cell_members,
  shown_cell_members,
  formula_members,
  merge_members,
  ref_members,
  property_word,
  text_members,
  custom_members,
}

-- a comma, a semicolon, a tab, `|`, NUL and DEL are delimiters; a quote, a newline, a return and what is
-- not ASCII are none
pub known_delimiters : map is_delimiter (0x2C ∷ 0x3B ∷ 0x09 ∷ 0x7C ∷ 0x00 ∷ 0x7F ∷ 0x22 ∷ 0x0A ∷ 0x0D ∷ 0x80 ∷ 0xFF ∷ [])
    ≡ true ∷ true ∷ true ∷ true ∷ true ∷ true ∷ false ∷ false ∷ false ∷ false ∷ false ∷ []
known_delimiters = refl

-- a comma, a quote, a newline and a return put a field into quotes; a semicolon, a tab and a space
-- don't, under a comma
pub known_marks : map (is_marked 0x2C) (0x2C ∷ 0x22 ∷ 0x0A ∷ 0x0D ∷ 0x3B ∷ 0x09 ∷ 0x20 ∷ [])
    ≡ true ∷ true ∷ true ∷ true ∷ false ∷ false ∷ false ∷ []
known_marks = refl

-- under a semicolon a comma stands as it is
pub known_others : map (is_marked 0x3B) (0x2C ∷ 0x3B ∷ []) ≡ false ∷ true ∷ []
known_others = refl

pub known_fields : map (csv_field 0x2C) (codes "" ∷ codes "ab c" ∷ codes "a,b" ∷ codes "\"" ∷ codes "a\nb" ∷ codes "a\rb" ∷ codes "a;b" ∷ [])
    ≡ codes "" ∷ codes "ab c" ∷ codes "\"a,b\"" ∷ codes "\"\"\"\"" ∷ codes "\"a\nb\"" ∷ codes "\"a\rb\"" ∷ codes "a;b" ∷ []
known_fields = refl

-- the row of RFC 4180, section 2, item 7; one empty field; two; with semicolons
pub known_row : csv_row 0x2C (codes "aaa" ∷ codes "b\"bb" ∷ codes "ccc" ∷ []) ≡ codes "aaa,\"b\"\"bb\",ccc\n"
known_row = refl

pub known_empty_rows : map (csv_row 0x2C) ((codes "" ∷ []) ∷ (codes "" ∷ codes "" ∷ []) ∷ []) ≡ codes "\"\"\n" ∷ codes ",\n" ∷ []
known_empty_rows = refl

pub known_semicolons : csv_row 0x3B (codes "1,5" ∷ codes "a;b" ∷ []) ≡ codes "1,5;\"a;b\"\n"
known_semicolons = refl

pub known_truths : map truth_text (true ∷ false ∷ []) ≡ codes "TRUE" ∷ codes "FALSE" ∷ []
known_truths = refl

pub known_years : map year_text (true ∷ false ∷ []) ≡ codes "1904" ∷ codes "1900" ∷ []
known_years = refl

pub known_types : map type_text (types.WorkSheet ∷ types.DialogSheet ∷ types.MacroSheet ∷ types.ChartSheet ∷ types.Vba ∷ [])
    ≡ codes "worksheet" ∷ codes "dialog" ∷ codes "macro" ∷ codes "chart" ∷ codes "vba" ∷ []
known_types = refl

pub known_visibilities : map visible_text (states.Visible ∷ states.Hidden ∷ states.VeryHidden ∷ [])
    ≡ codes "visible" ∷ codes "hidden" ∷ codes "veryhidden" ∷ []
known_visibilities = refl

pub known_moments : map moment_kind (DateTime ∷ TimeDelta ∷ []) ≡ codes "date" ∷ codes "span" ∷ []
known_moments = refl

-- the names of the fields of each line, in their order: dates, name, sheet, cell, formula, a text (as of
-- a refusal), custom property
pub known_members : map (map (λ (m : NamedItem). m.0))
    (dates_members true ∷ name_members [] [] ∷ sheet_members [] types.WorkSheet states.Visible ∷ cell_members 0 0 [] (count 0)
    ∷ formula_members 0 0 [] ∷ text_members [] ∷ custom_members [] [] ∷ [])
    ≡ (codes "year" ∷ [])
    ∷ (codes "name" ∷ codes "text" ∷ [])
    ∷ (codes "name" ∷ codes "kind" ∷ codes "visibility" ∷ [])
    ∷ (codes "row" ∷ codes "column" ∷ codes "kind" ∷ codes "value" ∷ [])
    ∷ (codes "row" ∷ codes "column" ∷ codes "text" ∷ [])
    ∷ (codes "text" ∷ [])
    ∷ (codes "name" ∷ codes "value" ∷ [])
    ∷ []
known_members = refl

pub known_merge : (d : Dimensions) → map (λ (m : NamedItem). m.0) (merge_members d)
    ≡ codes "first_row" ∷ codes "first_column" ∷ codes "last_row" ∷ codes "last_column" ∷ []
known_merge d = refl

pub known_ref_names : (d : Dimensions) → map (λ (m : NamedItem). m.0) (ref_members [] (0, 0) [] d)
    ≡ codes "sheet" ∷ codes "row" ∷ codes "column" ∷ codes "cited_sheet"
    ∷ codes "first_row" ∷ codes "first_column" ∷ codes "last_row" ∷ codes "last_column" ∷ []
known_ref_names d = refl

-- the words of the properties, in the order of the manual
pub known_properties : map property_word (property.Title ∷ property.Subject ∷ property.Creator ∷ property.Keywords
    ∷ property.Description ∷ property.Template ∷ property.LastModifiedBy ∷ property.Revision ∷ property.Created
    ∷ property.Modified ∷ property.Application ∷ property.Category ∷ property.Manager ∷ property.Company
    ∷ property.ContentStatus ∷ property.Version ∷ property.AppVersion ∷ [])
    ≡ codes "title" ∷ codes "subject" ∷ codes "creator" ∷ codes "keywords" ∷ codes "description" ∷ codes "template"
    ∷ codes "last_modified_by" ∷ codes "revision" ∷ codes "created" ∷ codes "modified" ∷ codes "application"
    ∷ codes "category" ∷ codes "manager" ∷ codes "company" ∷ codes "content_status" ∷ codes "version" ∷ codes "app_version" ∷ []
known_properties = refl

-- ---- whole lines, as text and as JSON

abbrev AreDisplayed : (FieldItem → List ℕ → Type 0) → List NamedItem → List (List ℕ) → Type 0
AreDisplayed P [] [] = Unit {0}
AreDisplayed P (m ∷ ms) (displayed ∷ rest) = P m.1 displayed × AreDisplayed P ms rest
AreDisplayed P ms texts = ⊥

abbrev tabbed : List (List ℕ) → List ℕ
tabbed [] = []
tabbed (displayed ∷ rest) = (codes "\t" ++ displayed) ++ tabbed rest

abbrev members : List NamedItem → List (List ℕ) → List ℕ
members [] texts = []
members (m ∷ ms) [] = []
members (m ∷ ms) (displayed ∷ rest) = (codes "," ++ (quoted m.0 ++ (codes ":" ++ displayed))) ++ members ms rest

are_tabbed : (ms : List NamedItem) (texts : List (List ℕ)) → AreDisplayed IsItemText ms texts → Concatenates IsTabbed ms (tabbed texts)
are_tabbed [] [] h = refl
are_tabbed (m ∷ ms) (displayed ∷ rest) h = (codes "\t" ++ displayed, tabbed rest, (displayed, h.0, refl), are_tabbed ms rest h.1, refl)
are_tabbed [] (displayed ∷ rest) h = absurd h
are_tabbed (m ∷ ms) [] h = absurd h

are_members : (ms : List NamedItem) (texts : List (List ℕ)) → AreDisplayed IsItemJson ms texts → Concatenates IsMember ms (members ms texts)
are_members [] [] h = refl
are_members (m ∷ ms) (displayed ∷ rest) h =
    (codes "," ++ (quoted m.0 ++ (codes ":" ++ displayed)), members ms rest, (displayed, h.0, refl), are_members ms rest h.1, refl)
are_members [] (displayed ∷ rest) h = absurd h
are_members (m ∷ ms) [] h = absurd h

text_line : (kind : List ℕ) (ms : List NamedItem) (texts : List (List ℕ)) → AreDisplayed IsItemText ms texts
    → IsLine Text kind ms (kind ++ (tabbed texts ++ codes "\n"))
text_line kind ms texts h = (tabbed texts, are_tabbed ms texts h, refl)

json_line : (kind : List ℕ) (ms : List NamedItem) (texts : List (List ℕ)) → AreDisplayed IsItemJson ms texts
    → IsLine Json kind ms (codes "{\"line\":" ++ (quoted kind ++ (members ms texts ++ codes "}\n")))
json_line kind ms texts h = (members ms texts, are_members ms texts h, refl)

-- a formula in row 3, column 4 of the sheet `A` that cites rows 1 to 5, columns 2 to 6 of a sheet with a tab in its name
abbrev ref : List NamedItem
ref = ref_members (codes "A") (3, 4) (codes "B\tC") (record { start = (1, 2); end = (5, 6) })

pub known_ref : IsLine Text (codes "ref") ref (codes "ref\tA\t3\t4\tB\\tC\t1\t2\t5\t6\n")
unfolding digits chars lib.Utf8.encode
known_ref =
    text_line (codes "ref") ref (codes "A" ∷ codes "3" ∷ codes "4" ∷ codes "B\\tC" ∷ codes "1" ∷ codes "2" ∷ codes "5" ∷ codes "6" ∷ [])
    (refl, (refl, (refl, (refl, (refl, (refl, (refl, (refl, tt))))))))

pub known_ref_json : IsLine Json (codes "ref") ref
    (codes "{\"line\":\"ref\",\"sheet\":\"A\",\"row\":3,\"column\":4,\"cited_sheet\":\"B\\tC\",\"first_row\":1,\"first_column\":2,\"last_row\":5,\"last_column\":6}\n")
unfolding digits escape_byte
known_ref_json =
    json_line (codes "ref") ref
    (codes "\"A\"" ∷ codes "3" ∷ codes "4" ∷ codes "\"B\\tC\"" ∷ codes "1" ∷ codes "2" ∷ codes "5" ∷ codes "6" ∷ [])
    (refl, (refl, (refl, (refl, (refl, (refl, (refl, (refl, tt))))))))

-- each kind of field as xls_dump writes it: 1.5 and -0.05 by bits and hundredths, 2.5 over 100; a day and a duration by
-- their numbers
pub known_exact : map exact_text (word (codes "a\t") ∷ text (0xC3 ∷ 0xA9 ∷ codes "a\t\n\r\\") ∷ count 7 ∷ int (negsuc 11)
    ∷ number (Bits 0x3ff8_0000_0000_0000) ∷ number (Bits 0x4008_0000_0000_0000) ∷ number (Whole (pos 3)) ∷ number (Hundredths (negsuc 4))
    ∷ number (BitsOver100 0x4004_0000_0000_0000) ∷ truth true ∷ truth false
    ∷ moment (record { number = Whole (pos 43831); kind = DateTime; is_1904 = false })
    ∷ moment (record { number = Bits 0x3fe0_0000_0000_0000; kind = TimeDelta; is_1904 = true }) ∷ failure NA ∷ unknown ∷ [])
    ≡ codes "a\t" ∷ (0xC3 ∷ 0xA9 ∷ codes "a\\t\\n\\r\\\\") ∷ codes "7" ∷ codes "-12"
    ∷ codes "0x3ff8000000000000" ∷ codes "3" ∷ codes "3" ∷ codes "-0.05"
    ∷ codes "0x4004000000000000/100" ∷ codes "true" ∷ codes "false"
    ∷ codes "43831" ∷ codes "0x3fe0000000000000" ∷ codes "#N/A" ∷ [] ∷ []
unfolding digits sixteen_digits size_of_parts chars lib.Utf8.encode
known_exact = refl

pub known_ref_exact : IsLine Exact (codes "ref") ref (codes "ref\tA\t3\t4\tB\\tC\t1\t2\t5\t6\n")
unfolding digits chars lib.Utf8.encode
known_ref_exact = refl

pub known_cell_exact : IsLine Exact (codes "cell") (cell_members 4 1 (codes "float") (number (Bits 0x3ff8_0000_0000_0000)))
    (codes "cell\t4\t1\tfloat\t0x3ff8000000000000\n")
unfolding digits sixteen_digits size_of_parts
known_cell_exact = refl

-- a place that isn't known, and a text that is shown
abbrev damaged : List NamedItem
damaged = (codes "row", unknown) ∷ (codes "column", count 3) ∷ []

pub known_unknown : IsLine Text (codes "damaged") damaged (codes "damaged\t\t3\n")
    × IsLine Json (codes "damaged") damaged (codes "{\"line\":\"damaged\",\"row\":null,\"column\":3}\n")
unfolding digits escape_byte
known_unknown = (
  text_line (codes "damaged") damaged ([] ∷ codes "3" ∷ []) (refl, (refl, tt)),
  json_line (codes "damaged") damaged (codes "null" ∷ codes "3" ∷ []) (refl, (refl, tt)),
)

abbrev shown : List NamedItem
shown = shown_cell_members 4 1 (codes "int") (int (pos 12)) (codes "00012")

pub known_shown : IsLine Text (codes "cell") shown (codes "cell\t4\t1\tint\t12\t00012\n")
    × IsLine Json (codes "cell") shown (codes "{\"line\":\"cell\",\"row\":4,\"column\":1,\"kind\":\"int\",\"value\":12,\"shown\":\"00012\"}\n")
unfolding digits chars lib.Utf8.encode escape_byte
known_shown = (
  text_line (codes "cell") shown (codes "4" ∷ codes "1" ∷ codes "int" ∷ codes "12" ∷ codes "00012" ∷ []) (refl, (refl, (refl, (refl, (refl, tt))))),
  json_line (codes "cell") shown (codes "4" ∷ codes "1" ∷ codes "\"int\"" ∷ codes "12" ∷ codes "\"00012\"" ∷ []) (refl, (refl, (refl, (refl, (refl, tt))))),
)

pub known_ok : IsLine Text (codes "ok") [] (codes "ok\n") × IsLine Json (codes "ok") [] (codes "{\"line\":\"ok\"}\n")
unfolding escape_byte
known_ok = (text_line (codes "ok") [] [] tt, json_line (codes "ok") [] [] tt)

pub known_title : IsLine Text (property_word property.Title) (text_members (codes "a\"b")) (codes "title\ta\"b\n")
    × IsLine Json (property_word property.Title) (text_members (codes "a\"b")) (codes "{\"line\":\"title\",\"text\":\"a\\\"b\"}\n")
unfolding chars lib.Utf8.encode escape_byte
known_title = (
  text_line (codes "title") (text_members (codes "a\"b")) (codes "a\"b" ∷ []) (refl, tt),
  json_line (codes "title") (text_members (codes "a\"b")) (codes "\"a\\\"b\"" ∷ []) (refl, tt),
)

pub known_custom : IsLine Text (codes "custom") (custom_members (codes "N") (codes "v")) (codes "custom\tN\tv\n")
    × IsLine Json (codes "custom") (custom_members (codes "N") (codes "v")) (codes "{\"line\":\"custom\",\"name\":\"N\",\"value\":\"v\"}\n")
unfolding chars lib.Utf8.encode escape_byte
known_custom = (
  text_line (codes "custom") (custom_members (codes "N") (codes "v")) (codes "N" ∷ codes "v" ∷ []) (refl, (refl, tt)),
  json_line (codes "custom") (custom_members (codes "N") (codes "v")) (codes "\"N\"" ∷ codes "\"v\"" ∷ []) (refl, (refl, tt)),
)
