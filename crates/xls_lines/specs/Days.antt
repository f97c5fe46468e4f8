-- The dates of serial days, by the calendar alone, and their text, as a list of ASCII codes.
use Rattle.std.specs.Prelude.{ℕ, zero, suc, ◌+◌, ◌/◌, ◌%◌, ◌==◌, nat_lt, Bool, true, false, if◌then◌else◌, pos, List, [], ◌∷◌, ◌++◌, codes}
use Rattle.jiff_core.specs.Calendar.{days_in_month}
use Rattle.xls_dates.specs.SerialDays.{last_day, last_day_of_1904}

-- ---- the calendar

-- a year, a month and a day
abbrev pub Ymd : Type 0
Ymd = ℕ × ℕ × ℕ

-- the day after a date
abbrev pub next_day : Ymd → Ymd
next_day d =
    if nat_lt d.2 (days_in_month (pos d.0) d.1) then (d.0, d.1, d.2 + 1)
    else if nat_lt d.1 12 then (d.0, d.1 + 1, 1)
    else (d.0 + 1, 1, 1)

-- the date so many days after another
unfoldable pub days_after : Ymd → ℕ → Ymd
days_after d zero = d
days_after d (suc n) = next_day (days_after d n)

-- the date of a serial day. The 1904 system counts from 1904-01-01, the 1900 system from 1899-12-31; that
-- has a day 60, 1900-02-29, which the calendar lacks
abbrev pub serial_date : Bool → ℕ → Ymd
serial_date true n = days_after (1904, 1, 1) n
serial_date false n =
    if n == 60 then (1900, 2, 29)
    else if nat_lt n 60 then days_after (1899, 12, 31) n
    else days_after (1899, 12, 30) n

-- the last serial day, 9999-12-31
abbrev pub last_day_in : Bool → ℕ
last_day_in true = last_day_of_1904
last_day_in false = last_day

-- ---- the text of a date

-- the last decimal digit of a number, and its last two
abbrev pub digit : ℕ → ℕ
digit n = 48 + n % 10

abbrev pub two_digits : ℕ → List ℕ
two_digits n = digit (n / 10) ∷ digit n ∷ []

-- the calendar date of ISO 8601: `2024-02-29`
abbrev pub date_text : Ymd → List ℕ
date_text d =
    two_digits (d.0 / 100) ++ (two_digits d.0 ++ (codes "-" ++ (two_digits d.1 ++ (codes "-" ++ two_digits d.2))))
