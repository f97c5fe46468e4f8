-- What Excel shows, so that a wrong rule in the definitions does not check.
use Rattle.std.proofs.Common.{◌≡◌, ℕ, List, [], ◌∷◌, map, refl, codes}
use Rattle.std.specs.Fmt.{digits}
use Rattle.xls_number_formats.specs.Grammar.{items}
use Rattle.xls_shown_dates.specs.declared.moments.Moment.{Moment}
use Rattle.xls_shown_dates.specs.Fields.{fields, clock_of}
use Rattle.xls_shown_dates.specs.Texts.{section_text}

abbrev shown : List ℕ → Moment → List ℕ
shown code m = section_text (clock_of (fields (items code))) m (items code)

-- 29 February 2024, 14:05:09.307, of day 45351
abbrev leap_day : Moment
leap_day = record { days = 45_351; year = 2024; month = 2; day = 29; weekday = 4; hour = 14; minute = 5; second = 9; millisecond = 307 }

abbrev at_hour : ℕ → Moment
at_hour n = record leap_day { hour = n }

abbrev in_year : ℕ → Moment
in_year n = record leap_day { year = n }

abbrev codes_at : Moment → List (List ℕ) → List (List ℕ)
codes_at m cs = map (λ code. shown code m) cs

-- ---- dates

-- the twelve months in five forms; six letters are the name
pub known_months : map (λ n. shown (codes "m mm mmm mmmm mmmmm mmmmmm") (record leap_day { month = n })) (1 ∷ 2 ∷ 3 ∷ 4 ∷ 5 ∷ 6 ∷ 7 ∷ 8 ∷ 9 ∷ 10 ∷ 11 ∷ 12 ∷ [])
    ≡ codes "1 01 Jan January J January"
    ∷ codes "2 02 Feb February F February"
    ∷ codes "3 03 Mar March M March"
    ∷ codes "4 04 Apr April A April"
    ∷ codes "5 05 May May M May"
    ∷ codes "6 06 Jun June J June"
    ∷ codes "7 07 Jul July J July"
    ∷ codes "8 08 Aug August A August"
    ∷ codes "9 09 Sep September S September"
    ∷ codes "10 10 Oct October O October"
    ∷ codes "11 11 Nov November N November"
    ∷ codes "12 12 Dec December D December" ∷ []
unfolding digits
known_months = refl

-- the seven days of the week in three forms
pub known_weekdays : map (λ n. shown (codes "ddd dddd ddddd") (record leap_day { weekday = n })) (0 ∷ 1 ∷ 2 ∷ 3 ∷ 4 ∷ 5 ∷ 6 ∷ [])
    ≡ codes "Sun Sunday Sunday"
    ∷ codes "Mon Monday Monday"
    ∷ codes "Tue Tuesday Tuesday"
    ∷ codes "Wed Wednesday Wednesday"
    ∷ codes "Thu Thursday Thursday"
    ∷ codes "Fri Friday Friday"
    ∷ codes "Sat Saturday Saturday" ∷ []
unfolding digits
known_weekdays = refl

-- days of the month; the 0th of January 1900
pub known_days : map (λ n. shown (codes "d dd") (record leap_day { day = n })) (0 ∷ 1 ∷ 9 ∷ 10 ∷ 29 ∷ 31 ∷ [])
    ≡ codes "0 00" ∷ codes "1 01" ∷ codes "9 09" ∷ codes "10 10" ∷ codes "29 29" ∷ codes "31 31" ∷ []
unfolding digits
known_days = refl

-- years in two digits and in four, and the Buddhist year
pub known_years : map (λ n. shown (codes "y yy yyy yyyy yyyyy e eee b bb bbb bbbb g ggg") (in_year n)) (1900 ∷ 2000 ∷ 2005 ∷ 2024 ∷ 2057 ∷ 9999 ∷ [])
    ≡ codes "00 00 1900 1900 1900 1900 1900 43 43 2443 2443  " ∷ codes "00 00 2000 2000 2000 2000 2000 43 43 2543 2543  "
    ∷ codes "05 05 2005 2005 2005 2005 2005 48 48 2548 2548  " ∷ codes "24 24 2024 2024 2024 2024 2024 67 67 2567 2567  "
    ∷ codes "57 57 2057 2057 2057 2057 2057 00 00 2600 2600  " ∷ codes "99 99 9999 9999 9999 9999 9999 42 42 10542 10542  " ∷ []
unfolding digits
known_years = refl

-- ---- times

-- each hour with AM and PM, in both cases of the letters, and without
pub known_half_days : map (λ n. shown (codes "h hh am/Pm") (at_hour n)) (0 ∷ 1 ∷ 2 ∷ 3 ∷ 4 ∷ 5 ∷ 6 ∷ 7 ∷ 8 ∷ 9 ∷ 10 ∷ 11 ∷ 12 ∷ 13 ∷ 14 ∷ 15 ∷ 16 ∷ 17 ∷ 18 ∷ 19 ∷ 20 ∷ 21 ∷ 22 ∷ 23 ∷ [])
    ≡ codes "12 12 AM" ∷ codes "1 01 AM" ∷ codes "2 02 AM" ∷ codes "3 03 AM" ∷ codes "4 04 AM" ∷ codes "5 05 AM"
    ∷ codes "6 06 AM" ∷ codes "7 07 AM" ∷ codes "8 08 AM" ∷ codes "9 09 AM" ∷ codes "10 10 AM" ∷ codes "11 11 AM"
    ∷ codes "12 12 PM" ∷ codes "1 01 PM" ∷ codes "2 02 PM" ∷ codes "3 03 PM" ∷ codes "4 04 PM" ∷ codes "5 05 PM"
    ∷ codes "6 06 PM" ∷ codes "7 07 PM" ∷ codes "8 08 PM" ∷ codes "9 09 PM" ∷ codes "10 10 PM" ∷ codes "11 11 PM" ∷ []
unfolding digits
known_half_days = refl

pub known_half_day_letters : map (λ n. shown (codes "h hhh a/P A/p") (at_hour n)) (0 ∷ 1 ∷ 2 ∷ 3 ∷ 4 ∷ 5 ∷ 6 ∷ 7 ∷ 8 ∷ 9 ∷ 10 ∷ 11 ∷ 12 ∷ 13 ∷ 14 ∷ 15 ∷ 16 ∷ 17 ∷ 18 ∷ 19 ∷ 20 ∷ 21 ∷ 22 ∷ 23 ∷ [])
    ≡ codes "12 12 a A" ∷ codes "1 01 a A" ∷ codes "2 02 a A" ∷ codes "3 03 a A" ∷ codes "4 04 a A" ∷ codes "5 05 a A"
    ∷ codes "6 06 a A" ∷ codes "7 07 a A" ∷ codes "8 08 a A" ∷ codes "9 09 a A" ∷ codes "10 10 a A" ∷ codes "11 11 a A"
    ∷ codes "12 12 P p" ∷ codes "1 01 P p" ∷ codes "2 02 P p" ∷ codes "3 03 P p" ∷ codes "4 04 P p" ∷ codes "5 05 P p"
    ∷ codes "6 06 P p" ∷ codes "7 07 P p" ∷ codes "8 08 P p" ∷ codes "9 09 P p" ∷ codes "10 10 P p" ∷ codes "11 11 P p" ∷ []
unfolding digits
known_half_day_letters = refl

pub known_hours : map (λ n. shown (codes "h hh hhh") (at_hour n)) (0 ∷ 1 ∷ 2 ∷ 3 ∷ 4 ∷ 5 ∷ 6 ∷ 7 ∷ 8 ∷ 9 ∷ 10 ∷ 11 ∷ 12 ∷ 13 ∷ 14 ∷ 15 ∷ 16 ∷ 17 ∷ 18 ∷ 19 ∷ 20 ∷ 21 ∷ 22 ∷ 23 ∷ [])
    ≡ codes "0 00 00" ∷ codes "1 01 01" ∷ codes "2 02 02" ∷ codes "3 03 03" ∷ codes "4 04 04" ∷ codes "5 05 05"
    ∷ codes "6 06 06" ∷ codes "7 07 07" ∷ codes "8 08 08" ∷ codes "9 09 09" ∷ codes "10 10 10" ∷ codes "11 11 11"
    ∷ codes "12 12 12" ∷ codes "13 13 13" ∷ codes "14 14 14" ∷ codes "15 15 15" ∷ codes "16 16 16" ∷ codes "17 17 17"
    ∷ codes "18 18 18" ∷ codes "19 19 19" ∷ codes "20 20 20" ∷ codes "21 21 21" ∷ codes "22 22 22" ∷ codes "23 23 23" ∷ []
unfolding digits
known_hours = refl

-- minutes and seconds, in one digit and in two
pub known_minutes : codes_at leap_day (codes "h:m:s" ∷ codes "hh:mm:ss" ∷ codes "mm:ss" ∷ codes "s m" ∷ codes "hmm" ∷ codes "sss" ∷ [])
    ≡ codes "14:5:9" ∷ codes "14:05:09" ∷ codes "05:09" ∷ codes "9 5" ∷ codes "1405" ∷ codes "09" ∷ []
unfolding digits
known_minutes = refl

pub known_late_minutes : codes_at (record leap_day { minute = 59; second = 58 }) (codes "h:m:s" ∷ codes "hh:mm:ss" ∷ []) ≡ codes "14:59:58" ∷ codes "14:59:58" ∷ []
unfolding digits
known_late_minutes = refl

-- elapsed time, in at least as many digits as letters; the other letters of its kind are elapsed too
pub known_elapsed : codes_at leap_day (codes "[h]" ∷ codes "[m]" ∷ codes "[ss]" ∷ codes "[hhhhhhhh]" ∷ codes "[h]:mm:ss" ∷ codes "[mm]:ss" ∷ codes "[m] h s" ∷ codes "[s] h:m:ss" ∷ codes "h [h] hhhhhhhh" ∷ codes "h:m [m]" ∷ codes "[h] h AM/PM" ∷ [])
    ≡ codes "1088438" ∷ codes "65306285" ∷ codes "3918377109" ∷ codes "01088438" ∷ codes "1088438:05:09" ∷ codes "65306285:09" ∷ codes "65306285 14 9" ∷ codes "3918377109 14:5:3918377109" ∷ codes "1088438 1088438 01088438" ∷ codes "14:65306285 65306285" ∷ codes "1088438 1088438 PM" ∷ []
unfolding digits
known_elapsed = refl

-- less than an hour
pub known_short_elapsed : codes_at (record leap_day { days = 0; hour = 0 }) (codes "[h]" ∷ codes "[hh]:mm" ∷ codes "[m]:ss" ∷ codes "[mmm]" ∷ codes "[s].000" ∷ []) ≡ codes "0" ∷ codes "00:05" ∷ codes "5:09" ∷ codes "005" ∷ codes "309.307" ∷ []
unfolding digits
known_short_elapsed = refl

-- fractions of a second: further zeros are zeros
pub known_fractions : codes_at leap_day (codes "s.0" ∷ codes "s.00" ∷ codes "s.000" ∷ codes "s.00000" ∷ codes "s." ∷ codes "s.0.00" ∷ codes "s0" ∷ [])
    ≡ codes "9.3" ∷ codes "9.30" ∷ codes "9.307" ∷ codes "9.30700" ∷ codes "9." ∷ codes "9.3.30" ∷ codes "90" ∷ []
unfolding digits
known_fractions = refl

-- ---- what stands for itself

pub known_literals : codes_at leap_day (codes "\"d\"\\m_y*s/ #?@%,1-[$s][Red][$-409]" ∷ codes "yyyy-mm-dd\"T\"hh:mm:ss" ∷ codes "d. mmmm yyyy;@" ∷ codes "" ∷ [])
    ≡ codes "dm / #?%,1-s" ∷ codes "2024-02-29T14:05:09" ∷ codes "29. February 2024" ∷ codes "" ∷ []
unfolding digits
known_literals = refl

-- ---- rows of Excel's

abbrev january_1900 : ℕ → Moment
january_1900 n = record leap_day { days = n; year = 1900; month = 1; day = n }

-- days 0 and 60 of the 1900 system; 36 hours; the last second before midnight
pub known_rows : (shown (codes "m/d/yyyy") (january_1900 0) ≡ codes "1/0/1900")
    × (shown (codes "m/d/yyyy") (record leap_day { days = 60; year = 1900; weekday = 3 }) ≡ codes "2/29/1900")
    × (shown (codes "[h]:mm") (record (january_1900 1) { hour = 12; minute = 0 }) ≡ codes "36:00")
    × (shown (codes "h:mm") (record (january_1900 0) { hour = 23; minute = 59 }) ≡ codes "23:59")
    × (shown (codes "[$-409]d-mmm-yy;@") leap_day ≡ codes "29-Feb-24")
    × (shown (codes "h:mm:ss") (record leap_day { hour = 16; minute = 17; second = 37 }) ≡ codes "16:17:37")
unfolding digits
known_rows = (refl, refl, refl, refl, refl, refl)
