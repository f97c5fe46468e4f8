-- Dates and times of day are read back from their texts.
use Rattle.std.proofs.Common.{◌≡◌, ◌≢◌, ℕ, ◌+◌, ◌-◌, ◌*◌, ◌/◌, ◌%◌, ◌<◌, ◌≤◌, List, [], ◌∷◌, ◌++◌, refl, arith, ◌∙◌, sym, ap, subst, inl, inr, Bool, true, false, ℤ, pos, ◌+ℤ◌, ◌⊎◌, lit<}
use Rattle.std.proofs.lemmas.Bool.{cases_lt, cases_eq, ne_eqb, eq-eqb, lt-ltb, le-ltb}
use Rattle.jiff_core.proofs.SignedLemmas.{signed_arith}
use Rattle.jiff_core.proofs.CalendarLemmas.{days_in_month_bounds}
use Rattle.xls_dates.proofs.DayLemmas.{known}
use Rattle.xls_dates.specs.SerialDays.{IsDayNumber, day_number}
use Rattle.xls_decimals.specs.Fractions.{day}
use Rattle.xls_lines.specs.Days.{Ymd, date_text, digit, last_day_in, serial_date}
use Rattle.xls_lines.proofs.DayLemmas.{IsSerialDate, serial_dated}
use Rattle.xls_decimals.specs.Texts.{fraction_text, clock_text, moment_text, time_after_day}

-- the number of two digits
two_value : ℕ → ℕ → ℕ
two_value a b = (a - 48) * 10 + (b - 48)

two_back : (n : ℕ) → n < 100 → two_value (digit (n / 10)) (digit n) ≡ n
unfolding two_value
two_back n p = omega arith

fraction_value : List ℕ → ℕ
fraction_value (p ∷ a ∷ []) = (a - 48) * 100
fraction_value (p ∷ a ∷ b ∷ []) = (a - 48) * 100 + (b - 48) * 10
fraction_value (p ∷ a ∷ b ∷ c ∷ []) = (a - 48) * 100 + (b - 48) * 10 + (c - 48)
fraction_value other = 0

fraction_back : (m : ℕ) → m < 1000 → fraction_value (fraction_text m) ≡ m
unfolding fraction_value
fraction_back m p = elim (cases_eq m 0) [
  | inl none ↦ rw (eq-eqb m 0 none) (sym none)
  | inr some ↦ elim (cases_eq (m % 100) 0) [
    | inl one ↦ rw (ne_eqb m 0 some, eq-eqb (m % 100) 0 one) (omega arith)
    | inr more ↦ elim (cases_eq (m % 10) 0) [
      | inl two ↦ rw (ne_eqb m 0 some, ne_eqb (m % 100) 0 more, eq-eqb (m % 10) 0 two) (omega arith)
      | inr three ↦ rw (ne_eqb m 0 some, ne_eqb (m % 100) 0 more, ne_eqb (m % 10) 0 three) (omega arith)
    ]
  ]
]

clock_value : List ℕ → ℕ
clock_value (a ∷ b ∷ p ∷ c ∷ d ∷ q ∷ e ∷ f ∷ rest) =
    two_value a b * 3_600_000 + two_value c d * 60_000 + two_value e f * 1_000 + fraction_value rest
clock_value other = 0

clock_back : (ms : ℕ) → ms < day → clock_value (clock_text ms) ≡ ms
unfolding clock_value
clock_back ms p =
    let hours = two_back (ms / 3_600_000) (omega arith) in
    let minutes = two_back (ms / 60_000 % 60) (omega arith) in
    let seconds = two_back (ms / 1_000 % 60) (omega arith) in
    let part = fraction_back (ms % 1_000) (omega arith) in
    rw (hours, minutes, seconds, part) (omega arith)

time_value : List ℕ → ℕ
time_value [] = 0
time_value (t ∷ clock) = clock_value clock

time_back : (ms : ℕ) → ms < day → time_value (time_after_day ms) ≡ ms
unfolding time_value
time_back ms p = elim (cases_eq ms 0) [
  | inl none ↦ rw (eq-eqb ms 0 none) (sym none)
  | inr some ↦ rw (ne_eqb ms 0 some) (clock_back ms p)
]

-- the first ten characters, and those after them
date_value : List ℕ → Ymd
date_value (a ∷ b ∷ c ∷ d ∷ p ∷ e ∷ f ∷ q ∷ g ∷ h ∷ rest) =
    (two_value a b * 100 + two_value c d, two_value e f, two_value g h)
date_value other = (0, 0, 0)

after_date : List ℕ → List ℕ
after_date (a ∷ b ∷ c ∷ d ∷ p ∷ e ∷ f ∷ q ∷ g ∷ h ∷ rest) = rest
after_date other = []

IsSmall : Ymd → Type 0
IsSmall d = (d.0 < 10_000) × (d.1 < 100) × (d.2 < 100)

year_back : (y : ℕ) → y < 10_000
    → two_value (digit (y / 100 / 10)) (digit (y / 100)) * 100 + two_value (digit (y / 10)) (digit y) ≡ y
unfolding two_value
year_back y p = omega arith

date_back : (d : Ymd) (rest : List ℕ) → IsSmall d → date_value (date_text d ++ rest) ≡ d
unfolding date_value IsSmall
date_back d rest p = rw (year_back d.0 p.0, two_back d.1 p.1, two_back d.2 p.2) refl

after_back : (d : Ymd) (rest : List ℕ) → after_date (date_text d ++ rest) ≡ rest
unfolding after_date
after_back d rest = refl

third : List ℕ → ℕ
third (a ∷ b ∷ c ∷ rest) = c
third other = 0

not_both : (ms : ℕ) (d : Ymd) (rest : List ℕ) → clock_text ms ≢ date_text d ++ rest
unfolding third
not_both ms d rest e =
    let colon : 58 ≡ digit (d.0 / 10) = ap third e in
    absurd (omega (arith, colon))

-- ---- serial days

civil_small : (d : Ymd) (n : ℤ) → IsDayNumber n d → IsSmall d
unfolding IsSmall
civil_small d n h = (
  omega (arith, signed_arith, h.civil.0),
  omega (arith, h.civil.1),
  omega
      (arith, h.civil.2, days_in_month_bounds (pos d.0) d.1),
)

small : (is_1904 : Bool) (serial : ℕ) (d : Ymd) → IsSerialDate is_1904 serial d
    → (serial < 60) ⊎ (60 ≤ serial) → (60 < serial) ⊎ (serial ≤ 60) → IsSmall d
unfolding IsSmall
small true serial d h l r = civil_small d _ (h.from_1904 refl)
small false serial d h (inl l) r = civil_small d _ (h.early refl l)
small false serial d h (inr l) (inl r) = civil_small d _ (h.late refl r)
small false serial d h (inr l) (inr r) =
    let is : d ≡ (1900, 2, 29) = h.leap refl (omega arith) in
    subst IsSmall (sym is) (lit< tt, lit< tt, lit< tt)

date_small : (is_1904 : Bool) (serial : ℕ) (d : Ymd) → IsSerialDate is_1904 serial d → IsSmall d
date_small is_1904 serial d h = small is_1904 serial d h (cases_lt serial 60) (cases_lt 60 serial)

-- the calendar has no 29 February 1900
no_leap_day : (n : ℤ) (d : Ymd) → d ≡ (1900, 2, 29) → IsDayNumber n d → ⊥
no_leap_day n d is h =
    let there : IsDayNumber n (1900, 2, 29) = subst (IsDayNumber n) is h in
    absurd (omega (arith, there.civil.2.1))

bases : day_number 1899 12 31 ≡ day_number 1899 12 30 +ℤ pos 1
bases = omega (arith, signed_arith, known.0, known.1)

serial_by : (a b : ℕ) (d : Ymd) → IsSerialDate false a d → IsSerialDate false b d
    → (a < 60) ⊎ (60 ≤ a) → (60 < a) ⊎ (a ≤ 60) → (b < 60) ⊎ (60 ≤ b) → (60 < b) ⊎ (b ≤ 60) → a ≡ b
serial_by a b d h i (inl p) q (inl r) s = omega (arith, signed_arith, (h.early refl p).counted, (i.early refl r).counted)
serial_by a b d h i (inl p) q (inr r) (inl s) = absurd (omega (
  arith,
  signed_arith,
  bases,
  p,
  s,
  (h.early refl p).counted,
  (i.late refl s).counted,
))
serial_by a b d h i (inl p) q (inr r) (inr s) = absurd (no_leap_day _ d (i.leap refl (omega arith)) (h.early refl p))
serial_by a b d h i (inr p) (inl q) (inl r) s = absurd (omega (
  arith,
  signed_arith,
  bases,
  q,
  r,
  (h.late refl q).counted,
  (i.early refl r).counted,
))
serial_by a b d h i (inr p) (inl q) (inr r) (inl s) = omega (
  arith,
  signed_arith,
  (h.late refl q).counted,
  (i.late refl s).counted,
)
serial_by a b d h i (inr p) (inl q) (inr r) (inr s) = absurd (no_leap_day _ d (i.leap refl (omega arith)) (h.late refl q))
serial_by a b d h i (inr p) (inr q) (inl r) s = absurd (no_leap_day _ d (h.leap refl (omega arith)) (i.early refl r))
serial_by a b d h i (inr p) (inr q) (inr r) (inl s) = absurd (no_leap_day _ d (h.leap refl (omega arith)) (i.late refl s))
serial_by a b d h i (inr p) (inr q) (inr r) (inr s) = omega arith

serial_same : (is_1904 : Bool) (a b : ℕ) (d : Ymd) → IsSerialDate is_1904 a d → IsSerialDate is_1904 b d → a ≡ b
serial_same true a b d h i = omega (arith, signed_arith, (h.from_1904 refl).counted, (i.from_1904 refl).counted)
serial_same false a b d h i = serial_by a b d h i (cases_lt a 60) (cases_lt 60 a) (cases_lt b 60) (cases_lt 60 b)

-- ---- moments

dated_same : (is_1904 : Bool) (p q : ℕ) → p / day ≤ last_day_in is_1904 → q / day ≤ last_day_in is_1904
    → date_text (serial_date is_1904 (p / day)) ++ time_after_day (p % day) ≡ date_text (serial_date is_1904 (q / day)) ++ time_after_day (q % day)
    → p ≡ q
dated_same is_1904 p q a b e =
    let d = serial_date is_1904 (p / day) in
    let f = serial_date is_1904 (q / day) in
    let on = serial_dated is_1904 (p / day) a in
    let to = serial_dated is_1904 (q / day) b in
    let one = date_back d (time_after_day (p % day)) (date_small is_1904 (p / day) d on) in
    let two = date_back f (time_after_day (q % day)) (date_small is_1904 (q / day) f to) in
    let dates : d ≡ f = sym one ∙ ap date_value e ∙ two in
    let days : p / day ≡ q / day = serial_same is_1904 (p / day) (q / day) f (subst (IsSerialDate is_1904 (p / day)) dates on) to in
    let tails : time_after_day (p % day) ≡ time_after_day (q % day) =
    sym (after_back d (time_after_day (p % day))) ∙ ap after_date e ∙ after_back f (time_after_day (q % day)) in
    let times : p % day ≡ q % day = sym (time_back (p % day) (omega arith)) ∙ ap time_value tails ∙ time_back
    (q % day) (omega arith) in
    omega (arith, days, times)

clock_same : (p q : ℕ) → p < day → q < day → clock_text p ≡ clock_text q → p ≡ q
clock_same p q a b e = sym (clock_back p a) ∙ ap clock_value e ∙ clock_back q b

-- below a day, and from one on
alone : (is_1904 : Bool) (p : ℕ) → p < day → moment_text is_1904 p ≡ clock_text p
alone is_1904 p l = rw (lt-ltb p day l) refl

dated : (is_1904 : Bool) (p : ℕ) → day ≤ p
    → moment_text is_1904 p ≡ date_text (serial_date is_1904 (p / day)) ++ time_after_day (p % day)
dated is_1904 p l = rw (le-ltb p day l) refl

pub moment_same : (is_1904 : Bool) (p q : ℕ) → p / day ≤ last_day_in is_1904 → q / day ≤ last_day_in is_1904
    → moment_text is_1904 p ≡ moment_text is_1904 q → p ≡ q
moment_same is_1904 p q h i e = elim (cases_lt p day) [
  | inl a ↦ elim (cases_lt q day) [
    | inl b ↦ clock_same p q a b (sym (alone is_1904 p a) ∙ e ∙ alone is_1904 q b)
    | inr b ↦ absurd (not_both p (serial_date is_1904 (q / day)) (time_after_day (q % day)) (sym (alone is_1904 p a) ∙ e ∙ dated is_1904 q b))
  ]
  | inr a ↦ elim (cases_lt q day) [
    | inl b ↦ absurd (not_both q (serial_date is_1904 (p / day)) (time_after_day (p % day)) (sym (alone is_1904 q b) ∙ sym e ∙ dated is_1904 p a))
    | inr b ↦ dated_same is_1904 p q h i (sym (dated is_1904 p a) ∙ e ∙ dated is_1904 q b)
  ]
]
