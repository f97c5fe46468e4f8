-- What the fields of a date's section show of a moment, in English (ECMA-376 part 1, 18.8.31). What it
-- leaves open is this project's rule.
use Rattle.std.specs.Prelude.{ℕ, ◌+◌, ◌-◌, ◌*◌, ◌/◌, ◌%◌, min, nat_le, nat_lt, ◌==◌, Bool, List, [], ◌++◌, length, take, replicate, codes, if◌then◌else◌}
use Rattle.std.specs.Fmt.{decimal}
use Rattle.std.specs.List.{flat_map, before_first, after_first}
use Rattle.xls_bytes.specs.Characters.{is}
use Rattle.xls_number_formats.specs.Grammar.{Token}
use Rattle.xls_shown_dates.specs.declared.moments.Moment.{Moment}
use Rattle.xls_shown_dates.specs.declared.fields.Field.{Field}
use Rattle.xls_shown_dates.specs.declared.fields.Field.TheVariants as field
use Rattle.xls_shown_dates.specs.declared.clocks.Clock.{Clock}
use Rattle.xls_shown_dates.specs.Fields.{fields}

-- a number in at least so many digits
abbrev pub padded : ℕ → ℕ → List ℕ
padded width n = replicate (width - length (decimal n)) 48 ++ decimal n

-- ---- dates

-- y, yy: two digits; more: four
abbrev pub year_text : ℕ → ℕ → List ℕ
year_text count year = if nat_le count 2 then padded 2 (year % 100) else padded 4 year

abbrev pub month_name : ℕ → List ℕ
month_name n =
    if n == 1 then codes "January" else if n == 2 then codes "February"
    else if n == 3 then codes "March" else if n == 4 then codes "April"
    else if n == 5 then codes "May" else if n == 6 then codes "June"
    else if n == 7 then codes "July" else if n == 8 then codes "August"
    else if n == 9 then codes "September" else if n == 10 then codes "October"
    else if n == 11 then codes "November" else codes "December"

-- m, mm: one or two digits, two; mmm: three letters of the name; mmmmm: one; else the name
abbrev pub month_text : ℕ → ℕ → List ℕ
month_text count month =
    if nat_le count 2 then padded count month
    else if count == 3 then take 3 (month_name month)
    else if count == 5 then take 1 (month_name month) else month_name month

abbrev pub day_name : ℕ → List ℕ
day_name n =
    if n == 0 then codes "Sunday" else if n == 1 then codes "Monday"
    else if n == 2 then codes "Tuesday" else if n == 3 then codes "Wednesday"
    else if n == 4 then codes "Thursday" else if n == 5 then codes "Friday" else codes "Saturday"

-- d, dd: the day of the month; ddd: three letters of the day of the week; more: its name
abbrev pub day_text : ℕ → ℕ → ℕ → List ℕ
day_text count day weekday =
    if nat_le count 2 then padded count day
    else if count == 3 then take 3 (day_name weekday) else day_name weekday

-- ---- times

-- since the beginning of day 0
abbrev pub all_hours : Moment → ℕ
all_hours m = m.days * 24 + m.hour

abbrev pub all_minutes : Moment → ℕ
all_minutes m = all_hours m * 60 + m.minute

abbrev pub all_seconds : Moment → ℕ
all_seconds m = all_minutes m * 60 + m.second

-- letters of elapsed time: at least as many digits; else one or two digits, or two
abbrev pub time_text : Bool → ℕ → ℕ → ℕ → List ℕ
time_text elapsed count all part = if elapsed then padded count all else padded (min count 2) part

-- with AM and PM 12, 1, .. 11
abbrev pub hour_shown : Bool → ℕ → ℕ
hour_shown half_days hour = if half_days then (hour + 11) % 12 + 1 else hour

abbrev pub is_morning : Moment → Bool
is_morning m = nat_lt m.hour 12

-- ---- sections

-- A field, by its item's text: letters by their number. Where a section has elapsed hours, minutes or
-- seconds, its other hours, minutes or seconds are elapsed too.
abbrev pub field_text : Clock → Moment → Field → List ℕ → List ℕ
field_text c m field.Own own = own
field_text c m field.Year own = year_text (length own) m.year
field_text c m field.FullYear own = padded 4 m.year
field_text c m field.BuddhistYear own = year_text (length own) (m.year + 543)
field_text c m field.Nothing own = []
field_text c m field.Month own = month_text (length own) m.month
field_text c m field.Day own = day_text (length own) m.day m.weekday
field_text c m field.Hours own =
    time_text c.has_elapsed_hours (length own) (all_hours m) (hour_shown c.has_half_days m.hour)
field_text c m field.Minutes own = time_text c.has_elapsed_minutes (length own) (all_minutes m) m.minute
field_text c m field.Seconds own = time_text c.has_elapsed_seconds (length own) (all_seconds m) m.second
field_text c m field.ElapsedHours own = padded (length own) (all_hours m)
field_text c m field.ElapsedMinutes own = padded (length own) (all_minutes m)
field_text c m field.ElapsedSeconds own = padded (length own) (all_seconds m)
field_text c m field.Tenths own = padded 1 (m.millisecond / 100 % 10)
field_text c m field.Hundredths own = padded 1 (m.millisecond / 10 % 10)
field_text c m field.Thousandths own = padded 1 (m.millisecond % 10)
field_text c m field.HalfDay own = if is_morning m then codes "AM" else codes "PM"
field_text c m field.HalfDayLetter own =
    if is_morning m then before_first (is 47) own else after_first (is 47) own

-- the items of a section, one after the other
abbrev pub section_text : Clock → Moment → List Token → List ℕ
section_text c m tokens = flat_map (λ f. field_text c m f.0 f.1) (fields tokens)
