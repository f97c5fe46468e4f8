-- What a cell is read as, by its content and the position of its row.
use Rattle.std.specs.Prelude.{◌==◌, ◌^◌, ℕ, ℤ, List, [], ◌∷◌, codes, Option, Some, None, Result, Ok, Err, Bool, true, false, not, ◌||◌, if◌then◌else◌, encode_utf8_all, unsigned_abs}
use Rattle.std.specs.Str.{bytes_eq}
use Rattle.xls_dates.specs.declared.numbers.Number.{Number}
use Rattle.xls_dates.specs.declared.numbers.Number.TheVariants.{Bits, Whole, Hundredths, BitsOver100}
use Rattle.xls_data.specs.Content.{Content, int, float, text, truth, date, iso_date, iso_duration, failure, nothing}
use Rattle.xls_rows.specs.Refusals.{Refusal, cell_error, custom}
use Rattle.xls_rows.specs.Texts.{expecting, quoted, kind_name, printed}

-- an error cell is refused by its value, every other one by its kind
abbrev pub other_kind : List ℕ → ℕ × ℕ → Content → Refusal
other_kind what place (failure e) = cell_error e place
other_kind what place c = custom (expecting what (kind_name c))

-- whether a cell is empty
abbrev pub is_empty_cell : Content → Bool
is_empty_cell nothing = true
is_empty_cell c = false

-- a whole number is zero, the bits of a double are those of a zero of either sign, a number is zero
abbrev pub is_zero_whole : ℤ → Bool
is_zero_whole n = unsigned_abs n == 0

abbrev pub is_zero_double : ℕ → Bool
is_zero_double bits = bits == 0 || bits == 2 ^ 63

abbrev pub is_zero : Number → Bool
is_zero (Bits bits) = is_zero_double bits
is_zero (Whole n) = is_zero_whole n
is_zero (Hundredths n) = is_zero_whole n
is_zero (BitsOver100 bits) = is_zero_double bits

-- the truth value that a text names
abbrev pub bool_named : List ℕ → Option Bool
bool_named bytes =
    if bytes_eq bytes (codes "TRUE") || bytes_eq bytes (codes "true")
    || bytes_eq bytes (codes "True") then Some true
    else if bytes_eq bytes (codes "FALSE") || bytes_eq bytes (codes "false")
    || bytes_eq bytes (codes "False") then Some false
    else None

-- a text as a truth value
abbrev pub bool_or : List ℕ → Option Bool → Result Bool Refusal
bool_or bytes (Some b) = Ok b
bool_or bytes None = Err (custom (expecting (codes "bool") (quoted bytes)))

-- a truth value, its name, whether a number or a date is not zero; empty is false, ISO texts are
-- true
abbrev pub bool_in : ℕ × ℕ → Content → Result Bool Refusal
bool_in place (truth b) = Ok b
bool_in place (text cs) = bool_or (encode_utf8_all cs) (bool_named (encode_utf8_all cs))
bool_in place nothing = Ok false
bool_in place (int n) = Ok (not (is_zero_whole n))
bool_in place (float x) = Ok (not (is_zero x))
bool_in place (date d) = Ok (not (is_zero d.number))
bool_in place (iso_date cs) = Ok true
bool_in place (iso_duration cs) = Ok true
bool_in place (failure e) = Err (cell_error e place)

-- the byte of a text that has one byte
abbrev pub only_byte : List ℕ → Option ℕ
only_byte (b ∷ []) = Some b
only_byte bytes = None

-- that byte as a character
abbrev pub char_or : Refusal → Option ℕ → Result ℕ Refusal
char_or r (Some b) = Ok b
char_or r None = Err r

-- the character of a text of one byte
abbrev pub char_in : ℕ × ℕ → Content → Result ℕ Refusal
char_in place (text cs) =
    char_or (other_kind (codes "char") place (text cs)) (only_byte (encode_utf8_all cs))
char_in place c = Err (other_kind (codes "char") place c)

-- the printed text
abbrev pub text_read : ℕ × ℕ → Content → Result (List ℕ) Refusal
text_read place (failure e) = Err (cell_error e place)
text_read place c = Ok (printed c)

-- the bytes of a text; an empty cell has none
abbrev pub bytes_in : ℕ × ℕ → Content → Result (List ℕ) Refusal
bytes_in place (text cs) = Ok (encode_utf8_all cs)
bytes_in place nothing = Ok []
bytes_in place c = Err (other_kind (codes "bytes") place c)

-- an empty cell
abbrev pub unit_in : ℕ × ℕ → Content → Result (Unit {0}) Refusal
unit_in place nothing = Ok tt
unit_in place c = Err (other_kind (codes "unit") place c)

-- the text of a cell that is one
abbrev pub enum_name_in : ℕ × ℕ → Content → Result (List ℕ) Refusal
enum_name_in place (text cs) = Ok (encode_utf8_all cs)
enum_name_in place c = Err (other_kind (codes "enum") place c)

-- the content; a date is its number, an ISO text is a text
abbrev pub data_in : ℕ × ℕ → Content → Result Content Refusal
data_in place (date d) = Ok (float d.number)
data_in place (iso_date cs) = Ok (text cs)
data_in place (iso_duration cs) = Ok (text cs)
data_in place (failure e) = Err (cell_error e place)
data_in place c = Ok c
