-- What the items of a date's section stand for (ECMA-376 part 1, 18.8.31). What it leaves open is this
-- project's rule.
use Rattle.std.specs.Prelude.{ℕ, ◌+◌, min, nat_le, ◌==◌, Bool, true, false, ◌&&◌, ◌||◌, List, [], ◌∷◌, length, if◌then◌else◌, Option, Some, None}
use Rattle.std.specs.List.{list_any}
use Rattle.std.specs.Option.{option_map}
use Rattle.xls_number_formats.specs.declared.items.Place.TheVariants as place
use Rattle.xls_number_formats.specs.declared.items.Letter.{Letter}
use Rattle.xls_number_formats.specs.declared.items.Letter.TheVariants as letter
use Rattle.xls_number_formats.specs.declared.items.Item.{Item}
use Rattle.xls_number_formats.specs.declared.items.Item.TheVariants as item
use Rattle.xls_number_formats.specs.Grammar.{Token}
use Rattle.xls_shown_dates.specs.declared.moments.Precision.{Precision}
use Rattle.xls_shown_dates.specs.declared.moments.Precision.TheVariants as precision
use Rattle.xls_shown_dates.specs.declared.fields.Field.{Field}
use Rattle.xls_shown_dates.specs.declared.fields.Field.TheVariants as field
use Rattle.xls_shown_dates.specs.declared.clocks.Clock.{Clock}

-- ---- what stands before and behind an item

-- the letter of an item of letters, elapsed or not
abbrev pub letter_in : Item → Option Letter
letter_in (item.Letters letter) = Some letter
letter_in (item.Elapsed letter) = Some letter
letter_in other = None

-- a letter before others, if there is one
abbrev pub with_letter : Option Letter → List Letter → List Letter
with_letter None letters = letters
with_letter (Some letter) letters = letter ∷ letters

abbrev pub letters : List Token → List Letter
letters [] = []
letters (t ∷ ts) = with_letter (letter_in t.0) (letters ts)

abbrev pub first : List Letter → Option Letter
first [] = None
first (letter ∷ letters) = Some letter

-- the letter of an item, or else the one before it
abbrev pub letter_after : Option Letter → Item → Option Letter
letter_after before i = first (with_letter (letter_in i) (with_letter before []))

-- The zeros right behind a point, three at most; none elsewhere. Brackets that show nothing are passed over.
abbrev pub zeros_after : Option ℕ → Item → Option ℕ
zeros_after zeros item.Point = Some 0
zeros_after zeros (item.Place place.Zero) = option_map (λ n. min (n + 1) 3) zeros
zeros_after zeros item.Hidden = zeros
zeros_after zeros (item.Condition condition) = zeros
zeros_after zeros other = None

-- ---- fields

-- h and s
abbrev pub is_clock_letter : Option Letter → Bool
is_clock_letter (Some letter.H) = true
is_clock_letter (Some letter.S) = true
is_clock_letter other = false

abbrev pub is_seconds_letter : Option Letter → Bool
is_seconds_letter (Some letter.S) = true
is_seconds_letter other = false

-- m once or twice are minutes where the letters before are h or s, or those behind are s
abbrev pub month_or_minutes : Option Letter → Option Letter → ℕ → Field
month_or_minutes before behind count =
    if nat_le count 2 && (is_clock_letter before || is_seconds_letter behind) then field.Minutes
    else field.Month

abbrev pub letters_field : Option Letter → Option Letter → Letter → ℕ → Field
letters_field before behind letter.Y count = field.Year
letters_field before behind letter.M count = month_or_minutes before behind count
letters_field before behind letter.D count = field.Day
letters_field before behind letter.H count = field.Hours
letters_field before behind letter.S count = field.Seconds
letters_field before behind letter.E count = field.FullYear
letters_field before behind letter.B count = field.BuddhistYear
letters_field before behind letter.G count = field.Nothing

abbrev pub elapsed_field : Letter → Field
elapsed_field letter.H = field.ElapsedHours
elapsed_field letter.M = field.ElapsedMinutes
elapsed_field letter.S = field.ElapsedSeconds
elapsed_field other = field.Own

-- a zero behind so many others
abbrev pub zero_field : Option ℕ → Field
zero_field None = field.Own
zero_field (Some n) =
    if n == 0 then field.Tenths else if n == 1 then field.Hundredths
    else if n == 2 then field.Thousandths else field.Own

-- an item under the letters before and behind it, and the zeros before it; by the number of its letters
abbrev pub field_of : Option Letter → Option Letter → Option ℕ → Item → ℕ → Field
field_of before behind zeros (item.Letters letter) count = letters_field before behind letter count
field_of before behind zeros (item.Elapsed letter) count = elapsed_field letter
field_of before behind zeros (item.Place place.Zero) count = zero_field zeros
field_of before behind zeros item.AmPm count = field.HalfDay
field_of before behind zeros item.AP count = field.HalfDayLetter
field_of before behind zeros item.Text count = field.Nothing
field_of before behind zeros other count = field.Own

-- the fields of a section's items behind a letter and so many zeros, each with the item's text
abbrev pub fields_from : Option Letter → Option ℕ → List Token → List (Field × List ℕ)
fields_from before zeros [] = []
fields_from before zeros (t ∷ ts) =
    (field_of before (first (letters ts)) zeros t.0 (length t.1), t.1)
    ∷ fields_from (letter_after before t.0) (zeros_after zeros t.0) ts

abbrev pub fields : List Token → List (Field × List ℕ)
fields tokens = fields_from None None tokens

-- ---- what a section needs

abbrev pub is_elapsed_hours : Field → Bool
is_elapsed_hours field.ElapsedHours = true
is_elapsed_hours other = false

abbrev pub is_elapsed_minutes : Field → Bool
is_elapsed_minutes field.ElapsedMinutes = true
is_elapsed_minutes other = false

abbrev pub is_elapsed_seconds : Field → Bool
is_elapsed_seconds field.ElapsedSeconds = true
is_elapsed_seconds other = false

abbrev pub is_half_day : Field → Bool
is_half_day field.HalfDay = true
is_half_day field.HalfDayLetter = true
is_half_day other = false

abbrev pub is_tenths : Field → Bool
is_tenths field.Tenths = true
is_tenths other = false

abbrev pub is_hundredths : Field → Bool
is_hundredths field.Hundredths = true
is_hundredths other = false

abbrev pub is_thousandths : Field → Bool
is_thousandths field.Thousandths = true
is_thousandths other = false

-- hours, minutes, seconds, a fraction, AM/PM, elapsed time
abbrev pub is_time : Field → Bool
is_time field.Own = false
is_time field.Year = false
is_time field.FullYear = false
is_time field.BuddhistYear = false
is_time field.Nothing = false
is_time field.Month = false
is_time field.Day = false
is_time other = true

abbrev pub has : (Field → Bool) → List (Field × List ℕ) → Bool
has p fs = list_any (λ f. p f.0) fs

abbrev pub clock_of : List (Field × List ℕ) → Clock
clock_of fs = record {
  has_time = has is_time fs;
  has_tenths = has is_tenths fs;
  has_hundredths = has is_hundredths fs;
  has_thousandths = has is_thousandths fs;
  has_half_days = has is_half_day fs;
  has_elapsed_hours = has is_elapsed_hours fs;
  has_elapsed_minutes = has is_elapsed_minutes fs;
  has_elapsed_seconds = has is_elapsed_seconds fs;
}

-- whole days without a time; else seconds, with as many decimals as the longest fraction, three at most
abbrev pub precision_of : Clock → Precision
precision_of c =
    if c.has_thousandths then precision.Milliseconds
    else if c.has_hundredths then precision.Hundredths else if c.has_tenths then precision.Tenths
    else if c.has_time then precision.Seconds else precision.Days
