-- What a user is told of a failure.
use Rattle.std.specs.Prelude.{ℕ, List, [], ◌∷◌, ◌++◌, ◌==◌, codes, if◌then◌else◌}
use Rattle.std.specs.Fmt.{decimal}
use Rattle.std.specs.String.{string_bytes}
use Rattle.xls_text.specs.declared.error.CfbError.TheVariants.{CodePageNotFound}
use Rattle.xls_record.specs.declared.error.XlsError.{XlsError}
use Rattle.xls_record.specs.declared.error.XlsError.TheVariants as stream
use Rattle.xls_record.specs.ErrorText.{error_text}
use Rattle.xls_container.specs.Texts.{fault_text}
use Rattle.xls_lay.specs.ErrorText.{error_text as canonical_text}
use Rattle.xls_output.specs.declared.stop.Stop.TheVariants.{Read, Write, Memory}
use Rattle.xls_answers.specs.declared.failure.Failure.{Failure}
use Rattle.xls_answers.specs.declared.failure.Failure.TheVariants as failures
use Rattle.xls_answers.specs.declared.failure.Missing.{Missing}
use Rattle.xls_answers.specs.declared.failure.Missing.TheVariants as missing

-- the pages that aren't read and have a name
abbrev pub page_names : List (ℕ × List ℕ)
page_names =
    (437, codes " (MS-DOS, United States)") ∷ (850, codes " (MS-DOS, Western Europe)")
    ∷ (874, codes " (Thai)") ∷ (932, codes " (Japanese)") ∷ (936, codes " (Chinese, simplified)")
    ∷ (949, codes " (Korean)") ∷ (950, codes " (Chinese, traditional)")
    ∷ (1250, codes " (Central Europe)") ∷ (1251, codes " (Cyrillic)") ∷ (1253, codes " (Greek)")
    ∷ (1254, codes " (Turkish)") ∷ (1255, codes " (Hebrew)") ∷ (1256, codes " (Arabic)")
    ∷ (1257, codes " (Baltic)") ∷ (1258, codes " (Vietnamese)") ∷ (10_000, codes " (Macintosh)")
    ∷ (32_768, codes " (Macintosh)") ∷ (32_769, codes " (1252)") ∷ []

-- the name of a page in a table, or nothing
abbrev pub name_in : List (ℕ × List ℕ) → ℕ → List ℕ
name_in [] page = []
name_in ((number, name) ∷ others) page = if page == number then name else name_in others page

-- the name of a page that isn't read, in parentheses
unfoldable pub page_name : ℕ → List ℕ
page_name page = name_in page_names page

-- a sheet that isn't there
abbrev pub missing_text : Missing → List ℕ
missing_text (missing.Name name) = codes "Worksheet '" ++ (string_bytes name ++ codes "' not found")
missing_text (missing.Number number) = codes "it has no sheet " ++ decimal number
missing_text missing.Worksheet = codes "it has no worksheet"

-- a page that isn't read is told by its number and its name, any other refusal as it is
abbrev pub stream_text : XlsError → List ℕ
stream_text (stream.Cfb (CodePageNotFound page)) =
    codes "code page " ++ (decimal page ++ (page_name page
    ++ codes " isn't read: --codepage N reads its texts by another one"))
stream_text e = error_text e

abbrev pub failure_text : Failure → List ℕ
failure_text (failures.File fault) = fault_text fault
failure_text failures.Obfuscated =
    codes "its records are obfuscated with a password (XOR): save it without one"
failure_text (failures.Stream error) = stream_text error
failure_text (failures.Missing sheet) = missing_text sheet
failure_text (failures.Canonical error) = canonical_text error
failure_text (failures.Stopped Read) = codes "it can't be read"
failure_text (failures.Stopped Write) = codes "the output can't be written"
failure_text (failures.Stopped Memory) = codes "out of memory"
