-- What a content of one kind is, and None for every other kind.
use Rattle.std.specs.Prelude.{◌≡◌, ℕ, ℤ, pos, Bool, if◌then◌else◌, List, Option, Some, None, FitsSigned, encode_utf8_all}
use Rattle.std.specs.Option.{SomeIff}
use Rattle.std.specs.Int.{w64}
use Rattle.std.specs.Fmt.{signed_decimal}
use Rattle.std.specs.Str.Parse.{IsNumeral, without_leading_sign, signed_digits_value}
use Rattle.xls_dates.specs.declared.numbers.Number.{Number}
use Rattle.xls_data.specs.declared.errors.CellErrorType.{CellErrorType}
use Rattle.xls_dates.specs.Dates.{DateParts}
use Rattle.xls_dates.specs.Numbers.{number_text, number_trunc}
use Rattle.xls_data.specs.Content.{Content, int, float, text, truth, date, iso_date, iso_duration, failure}

-- a whole number
abbrev pub int_in : Content → Option ℤ
int_in (int n) = Some n
int_in _ = None

-- a number
abbrev pub float_in : Content → Option Number
float_in (float n) = Some n
float_in _ = None

-- a truth value
abbrev pub truth_in : Content → Option Bool
truth_in (truth b) = Some b
truth_in _ = None

-- a text
abbrev pub text_content : Content → Option (List ℕ)
text_content (text cs) = Some cs
text_content _ = None

-- a date or a duration
abbrev pub date_in : Content → Option DateParts
date_in (date d) = Some d
date_in _ = None

-- the text of a date in ISO 8601
abbrev pub iso_date_in : Content → Option (List ℕ)
iso_date_in (iso_date cs) = Some cs
iso_date_in _ = None

-- the text of a duration in ISO 8601
abbrev pub iso_duration_in : Content → Option (List ℕ)
iso_duration_in (iso_duration cs) = Some cs
iso_duration_in _ = None

-- an error value
abbrev pub failure_in : Content → Option CellErrorType
failure_in (failure e) = Some e
failure_in _ = None

-- the printed text of a number, a whole number or a text, in UTF-8
abbrev pub printed_scalar : Content → Option (List ℕ)
printed_scalar (int n) = Some (signed_decimal n)
printed_scalar (float n) = Some (number_text n)
printed_scalar (text cs) = Some (encode_utf8_all cs)
printed_scalar _ = None

-- r is the whole number in 64 bits that a sign and decimal digits write, and None for other texts
abbrev pub IsParsed : List ℕ → Option ℤ → Type 0
IsParsed bs r = SomeIff r (IsNumeral 10 (without_leading_sign bs)
    × FitsSigned w64 (signed_digits_value 10 bs)) (signed_digits_value 10 bs)

-- r is the whole number that a content is taken for
abbrev pub IsWholeOf : Content → Option ℤ → Type 0
IsWholeOf (int n) r = r ≡ Some n
IsWholeOf (float n) r = r ≡ Some (number_trunc n)
IsWholeOf (truth b) r = r ≡ Some (if b then pos 1 else pos 0)
IsWholeOf (text cs) r = IsParsed (encode_utf8_all cs) r
IsWholeOf _ r = r ≡ None
