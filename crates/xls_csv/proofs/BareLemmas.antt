-- The field of a number or a date calls for no quotes: each of its bytes is above the comma.
use Rattle.std.proofs.Common.{◌≡◌, ℕ, zero, suc, ◌-◌, ◌/◌, ◌%◌, ◌^◌, ◌<◌, Bool, true, false, List, [], ◌∷◌, ◌++◌, codes, length, replicate, pos, negsuc, Option, Some, None, refl, ◌∙◌, arith}
use Rattle.std.specs.Prelude.{◌==◌, ℤ, if◌then◌else◌, unsigned_abs}
use Rattle.std.specs.Fmt.{decimal, digit_glyph, digits, digits_onto, signed_decimal}
use Rattle.std.proofs.lemmas.Bool.Decides.{nat_tests}
use Rattle.std.proofs.lemmas.List.Folds.{list_any-append}
use Rattle.csv.specs.Writing.{default_writer, field_text, needs_byte, needs_quotes}
use Rattle.xls_bytes.specs.Doubles.{whole_of}
use Rattle.xls_data.specs.Numeric.{numeric_content}
use Rattle.xls_data.specs.declared.numeric.Numeric.{Numeric}
use Rattle.xls_data.specs.declared.numeric.Numeric.TheVariants as numeric
use Rattle.xls_dates.specs.Dates.{DateParts}
use Rattle.xls_dates.specs.Numbers.{decimals_text, hundredths_text, minus_if_negative, number_text, sixteen_digits, whole_over_100_text, whole_text}
use Rattle.xls_dates.specs.declared.dates.ExcelDateTimeType.TheVariants as kind
use Rattle.xls_dates.specs.declared.numbers.Number.{Number}
use Rattle.xls_dates.specs.declared.numbers.Number.TheVariants.{Bits, Whole, Hundredths, BitsOver100}
use Rattle.xls_lines.specs.Days.{Ymd, date_text, digit, serial_date, two_digits}
use Rattle.xls_csv.specs.Dates.{day_of}
use Rattle.xls_csv.specs.Fields.{field, displayed_date}

-- no byte of a text calls for quotes
abbrev pub IsBare : List ℕ → Type 0
IsBare text = needs_quotes default_writer text ≡ false

-- such a text is its own field
pub bare_field : (text : List ℕ) → IsBare text → field_text default_writer text ≡ text
bare_field text bare = rw bare refl

-- ---- bytes above the comma

above_comma : (b : ℕ) → 44 < b → needs_byte default_writer b ≡ false
above_comma b l = grind (arith, nat_tests)

bare-cons : (b : ℕ) (text : List ℕ) → 44 < b → IsBare text → IsBare (b ∷ text)
bare-cons b text l bare = rw (above_comma b l) bare

bare-append : (a b : List ℕ) → IsBare a → IsBare b → IsBare (a ++ b)
bare-append a b p q = list_any-append (needs_byte default_writer) a b ∙ rw (p, q) refl

-- ---- digits

glyph_above : (d : ℕ) → 44 < digit_glyph false d
glyph_above d = grind (arith, nat_tests)

digits_by : (t : Bool) (one more : List ℕ) → IsBare one → IsBare more → IsBare (if t then one else more)
digits_by true one more p q = p
digits_by false one more p q = q

bare-digits_onto : (k base n : ℕ) (text : List ℕ) → IsBare text → IsBare (digits_onto k base false n text)
bare-digits_onto zero base n text bare = bare
bare-digits_onto (suc k) base n text bare =
    let glyph = digit_glyph false (n % base) in
    let one : IsBare (glyph ∷ text) = bare-cons glyph text (glyph_above (n % base)) bare in
    digits_by (n / base == 0) (glyph ∷ text) (digits_onto k base false (n / base) (glyph ∷ text)) one
    (bare-digits_onto k base (n / base) (glyph ∷ text) one)

bare_digits : (base n : ℕ) → IsBare (digits base false n)
unfolding digits
bare_digits base n = bare-digits_onto 64 base n [] refl

pub bare_signed : (n : ℤ) → IsBare (signed_decimal n)
bare_signed (pos n) = bare_digits 10 n
bare_signed (negsuc n) = bare-cons 45 (decimal (suc n)) (omega arith) (bare_digits 10 (suc n))

bare_zeros : (k : ℕ) → IsBare (replicate k 48)
bare_zeros zero = refl
bare_zeros (suc k) = bare_zeros k

bare_bits : (bits : ℕ) → IsBare (codes "0x" ++ sixteen_digits bits)
unfolding sixteen_digits
bare_bits bits =
    bare-append (codes "0x") (sixteen_digits bits) refl
    (bare-append (replicate (16 - length (digits 16 false bits)) 48) (digits 16 false bits)
    (bare_zeros (16 - length (digits 16 false bits))) (bare_digits 16 bits))

-- ---- numbers

last_decimal : (t : Bool) (n : ℕ) → IsBare (if t then [] else decimal n)
last_decimal true n = refl
last_decimal false n = bare_digits 10 n

some_decimals : (t u : Bool) (m n : ℕ) → IsBare (if t then [] else (codes "." ++ (decimal m ++ (if u then [] else decimal n))))
some_decimals true u m n = refl
some_decimals false u m n =
    let last = if u then [] else decimal n in
    bare-append (codes ".") (decimal m ++ last) refl (bare-append (decimal m) last (bare_digits 10 m) (last_decimal u n))

bare_decimals : (n : ℕ) → IsBare (decimals_text n)
bare_decimals n = some_decimals (n == 0) (n % 10 == 0) (n / 10) (n % 10)

bare_sign : (n : ℤ) → IsBare (minus_if_negative n)
bare_sign (pos n) = refl
bare_sign (negsuc n) = refl

bare_hundredths : (n : ℤ) → IsBare (hundredths_text n)
bare_hundredths n =
    let whole = decimal (unsigned_abs n / 100) in
    let decimals = decimals_text (unsigned_abs n % 100) in
    bare-append (minus_if_negative n) (whole ++ decimals) (bare_sign n)
    (bare-append whole decimals (bare_digits 10 (unsigned_abs n / 100)) (bare_decimals (unsigned_abs n % 100)))

bare_whole : (n : Option ℤ) (bits : ℕ) → IsBare (whole_text n bits)
bare_whole (Some n) bits = bare_signed n
bare_whole None bits = bare_bits bits

bare_over_100 : (n : Option ℤ) (bits : ℕ) → IsBare (whole_over_100_text n bits)
bare_over_100 (Some n) bits = bare_hundredths n
bare_over_100 None bits = bare-append (codes "0x" ++ sixteen_digits bits) (codes "/100") (bare_bits bits) refl

zero_or : (t : Bool) (text : List ℕ) → IsBare text → IsBare (if t then codes "-0" else text)
zero_or true text bare = refl
zero_or false text bare = bare

bare_number : (n : Number) → IsBare (number_text n)
bare_number (Bits bits) = zero_or (bits == 2 ^ 63) (whole_text (whole_of bits) bits) (bare_whole (whole_of bits) bits)
bare_number (Whole n) = bare_signed n
bare_number (Hundredths n) = bare_hundredths n
bare_number (BitsOver100 bits) = zero_or (bits == 2 ^ 63) (whole_over_100_text (whole_of bits) bits) (bare_over_100 (whole_of bits) bits)

-- ---- dates

bare_digit : (n : ℕ) (text : List ℕ) → IsBare text → IsBare (digit n ∷ text)
bare_digit n text bare = bare-cons (digit n) text (omega arith) bare

bare_two : (n : ℕ) (text : List ℕ) → IsBare text → IsBare (two_digits n ++ text)
bare_two n text bare = bare_digit (n / 10) (digit n ∷ text) (bare_digit n text bare)

bare_dash : (text : List ℕ) → IsBare text → IsBare (codes "-" ++ text)
bare_dash text bare = bare-append (codes "-") text refl bare

bare_date : (d : Ymd) → IsBare (date_text d)
bare_date d =
    let day = two_digits d.2 in
    let month = two_digits d.1 ++ (codes "-" ++ day) in
    bare_two (d.0 / 100) (two_digits d.0 ++ (codes "-" ++ month))
    (bare_two d.0 (codes "-" ++ month) (bare_dash month (bare_two d.1 (codes "-" ++ day) (bare_dash day (bare_two d.2 [] refl)))))

bare_displayed : (d : DateParts) (day : Option ℕ) → IsBare (displayed_date d day)
bare_displayed d (Some day) = bare_date (serial_date d.is_1904 day)
bare_displayed d None = bare_number d.number

bare_moment : (d : DateParts) → IsBare (displayed_date d (day_of d))
bare_moment d = bare_displayed d (day_of d)

-- ---- values

pub bare_numeric : (n : Numeric) → IsBare (field (numeric_content n))
bare_numeric (numeric.Int n) = bare_signed n
bare_numeric (numeric.Float n) = bare_number n
bare_numeric (numeric.DateTime n epoch) = bare_moment (record { number = n; kind = kind.DateTime; is_1904 = epoch })
bare_numeric (numeric.TimeDelta n epoch) = bare_moment (record { number = n; kind = kind.TimeDelta; is_1904 = epoch })
