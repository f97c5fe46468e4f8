-- A day has one date, and a time one moment.
use Rattle.std.proofs.Common.{◌≡◌, ℕ, ◌<◌, Bool, true, false, inl, inr, ap, ap₂, sym, refl, ◌∙◌, subst, arith, ℤ, pos}
use Rattle.std.proofs.lemmas.Bool.{cases_order}
use Rattle.std.proofs.lemmas.Int.{ints}
use Rattle.jiff_core.proofs.SignedLemmas.{signed_arith}
use Rattle.jiff_core.proofs.CalendarLemmas.{days_from_civil-day_count, day_count-lt_year, day_count-lt_month, day_count-day}
use Rattle.jiff_core.specs.Calendar.{day_count, days_from_civil}
use Rattle.xls_dates.specs.SerialDays.{IsDayNumber}
use Rattle.xls_shown_dates.specs.declared.moments.Moment.{Moment}
use Rattle.xls_shown_dates.specs.Moments.{IsDate, IsDateOf1900, weekday_of, IsMoment}

abbrev Ymd : Type 0
Ymd = ℕ × ℕ × ℕ

same_count : (n : ℤ) (a b : Ymd) → IsDayNumber n a → IsDayNumber n b → day_count (pos a.0) a.1 a.2 ≡ day_count (pos b.0) b.1 b.2
same_count n a b h k =
    let e : days_from_civil (pos a.0) a.1 a.2 ≡ days_from_civil (pos b.0) b.1 b.2 = h.counted ∙ sym k.counted in
    omega (arith, signed_arith, e, days_from_civil-day_count (pos a.0) a.1 a.2, days_from_civil-day_count (pos b.0) b.1 b.2)

no_later_year : (n : ℤ) (a b : Ymd) → IsDayNumber n a → IsDayNumber n b → a.0 < b.0 → ⊥
no_later_year n a b h k p =
    let less = day_count-lt_year (pos a.0) a.1 a.2 (pos b.0) b.1 b.2 h.civil k.civil.2.0 (omega (arith, ints)) in
    omega (arith, less, same_count n a b h k)

no_later_month : (n : ℤ) (a b : Ymd) → IsDayNumber n a → IsDayNumber n b → a.0 ≡ b.0 → a.1 < b.1 → ⊥
no_later_month n a b h k e p =
    let less = day_count-lt_month (pos a.0) a.1 a.2 b.1 b.2 h.civil k.civil.2.0 p in
    let same : day_count (pos a.0) a.1 a.2 ≡ day_count (pos a.0) b.1 b.2 = same_count n a b h k ∙ ap (λ y. day_count (pos y) b.1 b.2) (sym e) in
    omega (arith, less, same)

same_year : (n : ℤ) (a b : Ymd) → IsDayNumber n a → IsDayNumber n b → a.0 ≡ b.0
same_year n a b h k =
    elim (cases_order a.0 b.0) [
      | inl e ↦ e
      | inr (inl lt) ↦ absurd (no_later_year n a b h k lt)
      | inr (inr gt) ↦ absurd (no_later_year n b a k h gt)
    ]

same_month : (n : ℤ) (a b : Ymd) → IsDayNumber n a → IsDayNumber n b → a.1 ≡ b.1
same_month n a b h k =
    elim (cases_order a.1 b.1) [
      | inl e ↦ e
      | inr (inl lt) ↦ absurd (no_later_month n a b h k (same_year n a b h k) lt)
      | inr (inr gt) ↦ absurd (no_later_month n b a k h (same_year n b a k h) gt)
    ]

same_day : (n : ℤ) (a b : Ymd) → IsDayNumber n a → IsDayNumber n b → a.2 ≡ b.2
same_day n a b h k =
    let same : day_count (pos b.0) b.1 a.2 ≡ day_count (pos b.0) b.1 b.2 =
    sym (ap₂ (λ y m. day_count (pos y) m a.2) (same_year n a b h k) (same_month n a b h k)) ∙ same_count n a b h k in
    omega (arith, same, day_count-day (pos b.0) b.1 a.2 b.2 h.civil.2.0 k.civil.2.0)

one_number : (n : ℤ) (a b : Ymd) → IsDayNumber n a → IsDayNumber n b → a ≡ b
one_number n a b h k = let e : (a.0, a.1, a.2) ≡ (b.0, b.1, b.2) = rw (same_year n a b h k, same_month n a b h k, same_day n a b h k) refl in e

one_of_1900 : (day : ℕ) (a b : Ymd) → IsDateOf1900 day a → IsDateOf1900 day b → a ≡ b
one_of_1900 day a b h k =
    elim (cases_order day 60) [
      | inl e ↦ h.leap e ∙ sym (k.leap e)
      | inr (inr gt) ↦ one_number _ a b (h.late gt) (k.late gt)
      | inr (inl lt) ↦ elim (cases_order day 0) [
        | inl e ↦ h.zero e ∙ sym (k.zero e)
        | inr (inl none) ↦ absurd (omega arith)
        | inr (inr some) ↦ one_number _ a b (h.early some lt) (k.early some lt)
      ]
    ]

pub one_date : (is_1904 : Bool) (day : ℕ) (a b : Ymd) → IsDate is_1904 day a → IsDate is_1904 day b → a ≡ b
one_date false day a b h k = one_of_1900 day a b h k
one_date true day a b h k = one_number _ a b h k

pub one_time : (is_1904 : Bool) (time : ℕ) (a b : Moment) → IsMoment is_1904 time a → IsMoment is_1904 time b → a ≡ b
one_time is_1904 time a b h k =
    let days : a.days ≡ b.days = h.days ∙ sym k.days in
    let date : (a.year, a.month, a.day) ≡ (b.year, b.month, b.day) = one_date is_1904 a.days _ _ h.date (subst (λ d. IsDate is_1904 d (b.year, b.month, b.day)) (sym days) k.date) in
    let year : a.year ≡ b.year = ap (λ (d : Ymd). d.0) date in
    let month : a.month ≡ b.month = ap (λ (d : Ymd). d.1) date in
    let day : a.day ≡ b.day = ap (λ (d : Ymd). d.2) date in
    let weekday : a.weekday ≡ b.weekday = h.weekday ∙ ap (weekday_of is_1904) days ∙ sym k.weekday in
    let same : record a { days = a.days } ≡ record b { days = b.days }
    = rw (days, year, month, day, weekday, h.hour ∙ sym k.hour, h.minute ∙ sym k.minute, h.second ∙ sym k.second, h.millisecond ∙ sym k.millisecond) refl in
    same
