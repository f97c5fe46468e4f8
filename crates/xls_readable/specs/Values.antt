-- The value of a cell and its text as people read it, without quotes or escapes, in UTF-8.
use Rattle.std.specs.Prelude.{◌≡◌, ℕ, Bool, true, false, List, [], codes}
use Rattle.std.specs.Fmt.{signed_decimal}
use Rattle.std.specs.String.{string_bytes}
use Rattle.xls_data.specs.Errors.{error_text}
use Rattle.xls_data.specs.declared.values.Data.{Data}
use Rattle.xls_data.specs.declared.values.Data.TheVariants as variant
use Rattle.xls_decimals.specs.Decimals.{IsDecimal}
use Rattle.xls_decimals.specs.Moments.{IsDateOrDuration}
use Rattle.xls_readable.specs.declared.values.Value.{Value}
use Rattle.xls_readable.specs.declared.values.Value.TheVariants.{Int, Float, Text, Truth, Moment, IsoDate, IsoDuration, Failure, Empty}

abbrev pub truth_text : Bool → List ℕ
truth_text true = codes "TRUE"
truth_text false = codes "FALSE"

-- numbers in decimal, texts as they are, dates and durations as xls_decimals has them, the word of
-- an error, nothing of a blank
abbrev pub IsFieldText : Value → List ℕ → Type 0
IsFieldText (Int n) text = text ≡ signed_decimal n
IsFieldText (Float n) text = IsDecimal n text
IsFieldText (Text s) text = text ≡ s.now
IsFieldText (Truth b) text = text ≡ truth_text b
IsFieldText (Moment d) text = IsDateOrDuration d text
IsFieldText (IsoDate s) text = text ≡ s.now
IsFieldText (IsoDuration s) text = text ≡ s.now
IsFieldText (Failure e) text = text ≡ error_text e
IsFieldText Empty text = text ≡ []

-- a value of a cell, lent
abbrev pub IsValueOf : Data → Value → Type 0
IsValueOf (variant.Int n) (Int m) = m ≡ n
IsValueOf (variant.Float n) (Float m) = m ≡ n
IsValueOf (variant.String s) (Text t) = t.now ≡ string_bytes s
IsValueOf (variant.Bool b) (Truth c) = c ≡ b
IsValueOf (variant.DateTime d) (Moment e) = e ≡ d
IsValueOf (variant.DateTimeIso s) (IsoDate t) = t.now ≡ string_bytes s
IsValueOf (variant.DurationIso s) (IsoDuration t) = t.now ≡ string_bytes s
IsValueOf (variant.Error e) (Failure f) = f ≡ e
IsValueOf variant.Empty Empty = Unit {0}
IsValueOf d v = ⊥
