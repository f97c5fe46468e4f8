-- The day after a date has the next number, and a date is known by its number.
use Rattle.std.proofs.Common.{◌≡◌, ℕ, zero, suc, ◌+◌, ◌<◌, ◌≤◌, ◌⊎◌, inl, inr, Bool, true, false, refl, arith, pos, ◌+ℤ◌}
use Rattle.std.specs.Prelude.{nat_lt, ◌==◌}
use Rattle.std.proofs.lemmas.Bool.{cases_lt}
use Rattle.jiff_core.proofs.SignedLemmas.{signed_arith}
use Rattle.jiff_core.proofs.CalendarLemmas.{days_from_civil-day_count, days_in_month_bounds, day_count-lt_year, day_count-lt_month, day_count-day, day_count-next_month, day_count-next_year, day_count-last_of_year, day_count-end}
use Rattle.jiff_core.specs.Calendar.{day_count, days_in_month, IsCivilDate}
use Rattle.xls_dates.proofs.DayLemmas.{known}
use Rattle.xls_dates.specs.SerialDays.{IsDayNumber, day_number, last_day, last_day_of_1904}
use Rattle.xls_lines.specs.Days.{Ymd, next_day, days_after, serial_date, last_day_in}

-- the calendar has the date, and so many days lie before it
pub record IsCounted (n : ℕ) (d : Ymd) : Type 0 where
  pub civil : IsCivilDate (pos d.0) d.1 d.2
  pub counted : day_count (pos d.0) d.1 d.2 ≡ n

-- ---- the day after

in_month : (y m d n : ℕ) → IsCounted n (y, m, d) → d < days_in_month (pos y) m → IsCounted (suc n) (y, m, d + 1)
in_month y m d n h l = record {
  civil = (h.civil.0, h.civil.1, (omega arith, omega arith));
  counted = omega (arith, h.counted, h.civil.2.0, day_count-day (pos y) m d (d + 1) h.civil.2.0 (omega arith));
}

next_month : (y m d n : ℕ) → IsCounted n (y, m, d) → days_in_month (pos y) m ≤ d → m < 12 → IsCounted (suc n) (y, m + 1, 1)
next_month y m d n h l s = record {
  civil = (h.civil.0, (omega arith, omega arith), (omega arith, omega (arith, days_in_month_bounds (pos y) (m + 1))));
  counted =
      omega (arith, h.counted, h.civil.2.0, h.civil.2.1, day_count-next_month (pos y) m h.civil.1.0, day_count-day (pos y) m d 1 h.civil.2.0 (omega arith));
}

next_year : (y m d n : ℕ) → IsCounted n (y, m, d) → n < 7_304_849 → days_in_month (pos y) m ≤ d → 12 ≤ m → IsCounted (suc n) (y + 1, 1, 1)
next_year y m d n h last l s =
    let december : m ≡ 12 = omega (arith, h.civil.1.1) in
    let day : d ≡ 31 = omega (arith, rw december at l, rw december at h.civil.2.1) in
    let count : day_count (pos y) 12 31 ≡ n = rw (december, day) at h.counted in
    let first : day_count (pos (y + 1)) 1 1 ≡ suc n =
    omega (arith, count, day_count-last_of_year (pos y), day_count-next_year (pos y) (pos (y + 1)) (omega (arith, signed_arith)) (omega (arith, signed_arith))) in
    let year : y + 1 ≤ 9999 = elim (cases_lt y 9999) [
      | inl before ↦ omega arith
      | inr from ↦
          let end : y ≡ 9999 = omega (arith, signed_arith, h.civil.0) in
          absurd (omega (arith, day_count-end, rw end at first))
    ] in
    record {
      civil = (omega (arith, signed_arith), (omega arith, omega arith), (omega arith, omega (arith, days_in_month_bounds (pos (y + 1)) 1)));
      counted = first;
    }

next_by : (y m d n : ℕ) → IsCounted n (y, m, d) → n < 7_304_849
    → (d < days_in_month (pos y) m) ⊎ (days_in_month (pos y) m ≤ d) → (m < 12) ⊎ (12 ≤ m)
    → IsCounted (suc n) (next_day (y, m, d))
next_by y m d n h last (inl l) s =
    let test : nat_lt d (days_in_month (pos y) m) ≡ true = grind arith in
    rw test (in_month y m d n h l)
next_by y m d n h last (inr l) (inl s) =
    let test : nat_lt d (days_in_month (pos y) m) ≡ false = grind arith in
    let month : nat_lt m 12 ≡ true = grind arith in
    rw (test, month) (next_month y m d n h l s)
next_by y m d n h last (inr l) (inr s) =
    let test : nat_lt d (days_in_month (pos y) m) ≡ false = grind arith in
    let month : nat_lt m 12 ≡ false = grind arith in
    rw (test, month) (next_year y m d n h last l s)

next : (d : Ymd) (n : ℕ) → IsCounted n d → n < 7_304_849 → IsCounted (suc n) (next_day d)
next d n h last =
    next_by d.0 d.1 d.2 n h last (cases_lt d.2 (days_in_month (pos d.0) d.1)) (cases_lt d.1 12)

-- so many days later it is so many more
pub later : (d : Ymd) (n k : ℕ) → IsCounted n d → n + k ≤ 7_304_849 → IsCounted (n + k) (days_after d k)
unfolding days_after
later d n zero h last = let e : n + 0 ≡ n = omega arith in rw e h
later d n (suc k) h last =
    let e : n + suc k ≡ suc (n + k) = omega arith in
    rw e (next (days_after d k) (n + k) (later d n k h (omega arith)) (omega arith))

-- ---- one date has a number

same_by : (n y m d z k e : ℕ) → IsCounted n (y, m, d) → IsCounted n (z, k, e)
    → (y < z) ⊎ (z ≤ y) → (z < y) ⊎ (y ≤ z) → (m < k) ⊎ (k ≤ m) → (k < m) ⊎ (m ≤ k)
    → ◌≡◌ {A = Ymd} (y, m, d) (z, k, e)
same_by n y m d z k e h i (inl a) q r s =
    absurd (omega (arith, h.counted, i.counted, day_count-lt_year (pos y) m d (pos z) k e h.civil i.civil.2.0 (omega (arith, signed_arith))))
same_by n y m d z k e h i (inr a) (inl b) r s =
    absurd (omega (arith, h.counted, i.counted, day_count-lt_year (pos z) k e (pos y) m d i.civil h.civil.2.0 (omega (arith, signed_arith))))
same_by n y m d z k e h i (inr a) (inr b) (inl c) s =
    let year : z ≡ y = omega arith in
    absurd (omega (arith, h.counted, rw year at i.counted, day_count-lt_month (pos y) m d k e h.civil i.civil.2.0 c))
same_by n y m d z k e h i (inr a) (inr b) (inr c) (inl f) =
    let year : y ≡ z = omega arith in
    absurd (omega (arith, rw year at h.counted, i.counted, day_count-lt_month (pos z) k e m d i.civil h.civil.2.0 f))
same_by n y m d z k e h i (inr a) (inr b) (inr c) (inr f) =
    let year : z ≡ y = omega arith in
    let month : k ≡ m = omega arith in
    let count : day_count (pos y) m e ≡ n = rw (year, month) at i.counted in
    let day : d ≡ e = omega (arith, h.counted, count, day_count-day (pos y) m d e h.civil.2.0 i.civil.2.0) in
    cc

pub same_date : (n : ℕ) (a b : Ymd) → IsCounted n a → IsCounted n b → a ≡ b
same_date n a b h i =
    same_by n a.0 a.1 a.2 b.0 b.1 b.2 h i (cases_lt a.0 b.0) (cases_lt b.0 a.0) (cases_lt a.1 b.1) (cases_lt b.1 a.1)

-- ---- by the numbers that contracts have

from_number : (y m d k : ℕ) (b : Ymd) → IsDayNumber (day_number y m d +ℤ pos k) b → IsCounted (day_count (pos y) m d + k) b
from_number y m d k b h = record {
  civil = h.civil;
  counted =
      omega (arith, signed_arith, h.counted, days_from_civil-day_count (pos b.0) b.1 b.2, days_from_civil-day_count (pos y) m d);
}

-- the date so many days after a date of the calendar is the one with that number
pub date_is : (y m d k : ℕ) (b : Ymd) → IsCivilDate (pos y) m d → day_count (pos y) m d + k ≤ 7_304_849
    → IsDayNumber (day_number y m d +ℤ pos k) b → b ≡ days_after (y, m, d) k
date_is y m d k b civil last h =
    same_date (day_count (pos y) m d + k) b (days_after (y, m, d) k)
    (from_number y m d k b h)
    (later (y, m, d) (day_count (pos y) m d) k (record { civil = civil; counted = refl }) last)

-- ---- serial days

counts : (day_count (pos 1899) 12 31 ≡ 4_346_385) × (day_count (pos 1899) 12 30 ≡ 4_346_384) × (day_count (pos 1904) 1 1 ≡ 4_347_846)
counts = (
  omega (arith, signed_arith, known.0, days_from_civil-day_count (pos 1899) 12 31),
  omega (arith, signed_arith, known.1, days_from_civil-day_count (pos 1899) 12 30),
  omega (arith, signed_arith, known.2, days_from_civil-day_count (pos 1904) 1 1),
)

civil_1904 : IsCivilDate (pos 1904) 1 1
civil_1904 = (omega (arith, signed_arith), (omega arith, omega arith), (omega arith, omega arith))

civil_31 : IsCivilDate (pos 1899) 12 31
civil_31 = (omega (arith, signed_arith), (omega arith, omega arith), (omega arith, omega arith))

civil_30 : IsCivilDate (pos 1899) 12 30
civil_30 = (omega (arith, signed_arith), (omega arith, omega arith), (omega arith, omega arith))

from_1900 : (day : ℕ) (b : Ymd) → day ≤ last_day
    → (day ≡ 60 → b ≡ (1900, 2, 29))
    → (day < 60 → IsDayNumber (day_number 1899 12 31 +ℤ pos day) b)
    → (60 < day → day ≤ last_day → IsDayNumber (day_number 1899 12 30 +ℤ pos day) b)
    → (day < 60) ⊎ (60 ≤ day) → (60 < day) ⊎ (day ≤ 60)
    → b ≡ serial_date false day
from_1900 day b last leap early late (inl l) r =
    let other : (day == 60) ≡ false = grind arith in
    let before : nat_lt day 60 ≡ true = grind arith in
    rw (other, before) (date_is 1899 12 31 day b civil_31 (omega (arith, counts.0)) (early l))
from_1900 day b last leap early late (inr l) (inl r) =
    let other : (day == 60) ≡ false = grind arith in
    let following : nat_lt day 60 ≡ false = grind arith in
    rw (other, following) (date_is 1899 12 30 day b civil_30 (omega (arith, counts.1)) (late r last))
from_1900 day b last leap early late (inr l) (inr r) =
    let here : day ≡ 60 = omega arith in
    rw here (leap here)

-- the date of a serial day, by what `ymd_of_serial_day` ensures
pub serial_is : (is_1904 : Bool) (day : ℕ) (b : Ymd) → day ≤ last_day_in is_1904
    → (is_1904 ≡ false → day ≡ 60 → b ≡ (1900, 2, 29))
    → (is_1904 ≡ false → day < 60 → IsDayNumber (day_number 1899 12 31 +ℤ pos day) b)
    → (is_1904 ≡ false → 60 < day → day ≤ last_day → IsDayNumber (day_number 1899 12 30 +ℤ pos day) b)
    → (is_1904 ≡ true → day ≤ last_day_of_1904 → IsDayNumber (day_number 1904 1 1 +ℤ pos day) b)
    → b ≡ serial_date is_1904 day
serial_is true day b last leap early late from =
    date_is 1904 1 1 day b civil_1904 (omega (arith, counts.2)) (from refl last)
serial_is false day b last leap early late from =
    from_1900 day b last (leap refl) (early refl) (late refl) (cases_lt day 60) (cases_lt 60 day)

-- ---- the number of the date of a serial day

numbered : (y m d k : ℕ) → IsCivilDate (pos y) m d → day_count (pos y) m d + k ≤ 7_304_849
    → IsDayNumber (day_number y m d +ℤ pos k) (days_after (y, m, d) k)
numbered y m d k civil last =
    let b = days_after (y, m, d) k in
    let h : IsCounted (day_count (pos y) m d + k) b = later (y, m, d) (day_count (pos y) m d) k (record { civil = civil; counted = refl }) last in
    record {
      civil = h.civil;
      counted = omega (arith, signed_arith, h.counted, days_from_civil-day_count (pos b.0) b.1 b.2, days_from_civil-day_count (pos y) m d);
    }

-- by its system, and in the 1900 system by which side of day 60 it stands on
pub record IsSerialDate (is_1904 : Bool) (serial : ℕ) (date : Ymd) : Type 0 where
  pub leap : is_1904 ≡ false → serial ≡ 60 → date ≡ (1900, 2, 29)
  pub early : is_1904 ≡ false → serial < 60 → IsDayNumber (day_number 1899 12 31 +ℤ pos serial) date
  pub late : is_1904 ≡ false → 60 < serial → IsDayNumber (day_number 1899 12 30 +ℤ pos serial) date
  pub from_1904 : is_1904 ≡ true → IsDayNumber (day_number 1904 1 1 +ℤ pos serial) date

dated_1900 : (day : ℕ) → day ≤ last_day → IsSerialDate false day (serial_date false day)
dated_1900 day last = record {
  leap = λ e here. rw here refl;
  early = λ e l.
      let other : (day == 60) ≡ false = grind arith in
      let before : nat_lt day 60 ≡ true = grind arith in
      rw (other, before) (numbered 1899 12 31 day civil_31 (omega (arith, counts.0)));
  late = λ e r.
      let other : (day == 60) ≡ false = grind arith in
      let following : nat_lt day 60 ≡ false = grind arith in
      rw (other, following) (numbered 1899 12 30 day civil_30 (omega (arith, counts.1)));
  from_1904 = λ e. absurd cc;
}

pub serial_dated : (is_1904 : Bool) (day : ℕ) → day ≤ last_day_in is_1904 → IsSerialDate is_1904 day (serial_date is_1904 day)
serial_dated true day last = record {
  leap = λ e. absurd cc;
  early = λ e. absurd cc;
  late = λ e. absurd cc;
  from_1904 = λ e. numbered 1904 1 1 day civil_1904 (omega (arith, counts.2));
}
serial_dated false day last = dated_1900 day last
