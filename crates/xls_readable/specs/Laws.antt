-- Laws, each over the definitions alone. How a text of CSV is read is told by the kit's reader,
-- `csv`, at its own defaults but for the delimiter.
use Rattle.std.specs.Prelude.{◌≡◌, ℕ, ◌<◌, true, Some, List, [], ◌∷◌, ◌++◌, length, map}
use Rattle.std.specs.List.{flat_map}
use Rattle.csv.specs.Machine.{next_record}
use Rattle.csv.specs.Reading.{default_config, records_from}
use Rattle.csv.specs.declared.parser.Config.{Config}
use Rattle.csv.specs.declared.parser.State.TheVariants.{StartRecord}
use Rattle.json.specs.Print.{IsNumber}
use Rattle.xls_bytes.specs.Doubles.{exponent_of, fits_i64}
use Rattle.xls_dates.specs.declared.numbers.Number.{Number}
use Rattle.xls_dates.specs.declared.numbers.Number.TheVariants.{Bits, Whole, Hundredths, BitsOver100}
use Rattle.xls_decimals.specs.Decimals.{IsDecimal}
use Rattle.xls_readable.specs.Csv.{csv_row, is_delimiter}
use Rattle.xls_readable.specs.Items.{number}
use Rattle.xls_readable.specs.Json.{IsItemJson}

-- the reader's defaults, with a delimiter
abbrev pub config : ℕ → Config
config delimiter = record default_config { delimiter = delimiter }

-- a row of at least one field reads back as its fields, whatever text comes after it
abbrev pub RowsReadBack : Type 0
RowsReadBack = (delimiter : ℕ) (field : List ℕ) (fields : List (List ℕ)) (rest : List ℕ)
    → is_delimiter delimiter ≡ true
    → next_record (config delimiter) StartRecord [] [] (csv_row delimiter (field ∷ fields) ++ rest)
    ≡ Some (field ∷ fields, StartRecord, rest)

-- a row of at least one field: the first and those after it
abbrev pub Row : Type 0
Row = List ℕ × List (List ℕ)

abbrev pub fields_of : Row → List (List ℕ)
fields_of row = row.0 ∷ row.1

-- so rows one after another read back as their fields
abbrev pub TextsReadBack : Type 0
TextsReadBack = (delimiter : ℕ) (rows : List Row) → is_delimiter delimiter ≡ true
    → records_from (config delimiter) (length rows) StartRecord
    (flat_map (λ row. csv_row delimiter (fields_of row)) rows) ≡ map fields_of rows

-- a number that is no infinity, and isn't other than a number; whole numbers have 64 bits
abbrev pub IsFiniteNumber : Number → Type 0
IsFiniteNumber (Bits bits) = exponent_of bits < 2047
IsFiniteNumber (Whole n) = fits_i64 n ≡ true
IsFiniteNumber (Hundredths n) = fits_i64 n ≡ true
IsFiniteNumber (BitsOver100 bits) = exponent_of bits < 2047

-- a finite number stands in JSON by its decimal text, which is a number of RFC 8259
abbrev pub NumbersAreBare : Type 0
NumbersAreBare = (n : Number) (out : List ℕ) → IsFiniteNumber n → IsItemJson (number n) out → IsDecimal n out × IsNumber out
