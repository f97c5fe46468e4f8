-- FILETIME ([MS-DTYP] FILETIME): 100 nanoseconds from 1601-01-01 UTC, as a text of ISO 8601.
use Rattle.std.specs.Prelude.{◌≡◌, ℕ, ◌/◌, ◌%◌, ◌≤◌, ◌⊎◌, pos, ◌+ℤ◌, List, ◌++◌, codes}
use Rattle.std.specs.Fmt.{decimal}
use Rattle.jiff.specs.Words.{epoch_day, date_text}
use Rattle.jiff_core.specs.declared.civil.date.Date.{Date}
use Rattle.xls_dates.specs.SerialDays.{day_number}

-- the tens and the ones
abbrev pub two_digits : ℕ → List ℕ
two_digits n = decimal (n / 10) ++ decimal (n % 10)

-- the time of a second of the day
abbrev pub clock_text : ℕ → List ℕ
clock_text s =
    two_digits (s / 3600)
    ++ (codes ":" ++ (two_digits (s / 60 % 60) ++ (codes ":" ++ two_digits (s % 60))))

-- the FILETIME of 10000-01-01, the first whose year has five digits
abbrev pub past_last_day : ℕ
past_last_day = 2_650_467_744_000_000_000

-- 0 stands for no moment, and no text has five digits of a year
abbrev pub IsNoMoment : ℕ → Type 0
IsNoMoment n = (n ≡ 0) ⊎ (past_last_day ≤ n)

-- the date so many whole days after 1601-01-01, and the second of that day
pub record IsMoment (n : ℕ) (text : List ℕ) : Type 0 where
  pub date : Date
  pub counted : epoch_day date ≡ day_number 1601 1 1 +ℤ pos (n / 10_000_000 / 86_400)
  pub displayed : text ≡ date_text date
      ++ (codes "T" ++ (clock_text (n / 10_000_000 % 86_400) ++ codes "Z"))
