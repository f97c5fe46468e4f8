-- The texts of dates, times of day and durations, as lists of ASCII codes.
use Rattle.std.specs.Prelude.{ℕ, ◌/◌, ◌%◌, ◌==◌, nat_lt, if◌then◌else◌, Bool, List, [], ◌∷◌, ◌++◌, codes}
use Rattle.std.specs.Fmt.{decimal}
use Rattle.xls_lines.specs.Days.{date_text, digit, serial_date, two_digits}
use Rattle.xls_decimals.specs.Fractions.{day}

-- milliseconds below a second: a point and three digits, without zeros at the end; nothing for none
abbrev pub fraction_text : ℕ → List ℕ
fraction_text ms =
    if ms == 0 then []
    else if ms % 100 == 0 then codes "." ++ digit (ms / 100) ∷ []
    else if ms % 10 == 0 then codes "." ++ two_digits (ms / 10)
    else codes "." ++ (digit (ms / 100) ∷ two_digits ms)

-- the minutes and seconds of so many milliseconds, `:45:30.25`
abbrev pub minutes_text : ℕ → List ℕ
minutes_text ms =
    codes ":" ++ (two_digits (ms / 60_000 % 60) ++ (codes ":" ++ (two_digits (ms / 1_000 % 60) ++ fraction_text (ms % 1_000))))

-- a time of day: `13:45:30.25`
abbrev pub clock_text : ℕ → List ℕ
clock_text ms = two_digits (ms / 3_600_000) ++ minutes_text ms

-- what stands after a day: nothing at midnight
abbrev pub time_after_day : ℕ → List ℕ
time_after_day ms = if ms == 0 then [] else codes "T" ++ clock_text ms

-- a day and a time of day, counted in milliseconds from the start of day 0: below one day a time
-- alone, at midnight a day alone
abbrev pub moment_text : Bool → ℕ → List ℕ
moment_text is_1904 ms =
    if nat_lt ms day then clock_text ms
    else date_text (serial_date is_1904 (ms / day)) ++ time_after_day (ms % day)

-- the sign of a duration
abbrev pub sign_of : Bool → ℕ → List ℕ
sign_of negative ms = if ms == 0 then [] else if negative then codes "-" else []

-- a duration as the number format `[h]:mm:ss` shows it, with its fraction of a second: `-1:30:00.5`
abbrev pub duration_text : Bool → ℕ → List ℕ
duration_text negative ms = sign_of negative ms ++ (decimal (ms / 3_600_000) ++ minutes_text ms)
