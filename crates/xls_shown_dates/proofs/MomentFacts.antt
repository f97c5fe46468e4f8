-- Values that Excel gives, so that a wrong rule in the definitions does not check.
use Rattle.std.proofs.Common.{◌≡◌, ℕ, ◌<◌, Bool, true, false, List, [], ◌∷◌, map, replicate, refl, arith, pos, negsuc, ◌+ℤ◌, ◌≤ℤ◌}
use Rattle.std.proofs.lemmas.Int.{ints}
use Rattle.jiff_core.specs.Calendar.{days_from_civil, day_count, days_of_years, days_of_months}
use Rattle.xls_dates.specs.SerialDays.{IsDayNumber, day_number}
use Rattle.xls_rounding.specs.Fractions.{places_up_to, places, magnitude}
use Rattle.xls_rounding.specs.Rounding.{of_15_digits, decimal_of}
use Rattle.xls_shown_dates.specs.declared.moments.Moment.{Moment}
use Rattle.xls_shown_dates.specs.declared.moments.Precision.{Precision}
use Rattle.xls_shown_dates.specs.declared.moments.Precision.TheVariants.{Days, Seconds, Tenths, Hundredths, Milliseconds}
use Rattle.xls_shown_dates.specs.Moments.{time_of, IsDate, weekday_of, last_of, has_moment, IsMoment}

-- ---- time

abbrev all_precisions : ℕ → List ℕ
all_precisions bits = map (λ p. time_of p bits) (Days ∷ Seconds ∷ Tenths ∷ Hundredths ∷ Milliseconds ∷ [])

-- 0.9999, which is 23:59:51.36: days are cut, all else is rounded
pub known_time : all_precisions 0x3FEF_FF2E_48E8_A71E ≡ 0 ∷ 86_391_000 ∷ 86_391_400 ∷ 86_391_360 ∷ 86_391_360 ∷ []
unfolding decimal_of of_15_digits magnitude places places_up_to
known_time = refl

-- 0.12345678, which is 02:57:46.665792; the same below zero
pub known_places : all_precisions 0x3FBF_9ADD_1091_C895 ≡ 0 ∷ 10_667_000 ∷ 10_666_700 ∷ 10_666_670 ∷ 10_666_666 ∷ []
unfolding decimal_of of_15_digits magnitude places places_up_to
known_places = refl

pub known_negative : all_precisions 0xBFBF_9ADD_1091_C895 ≡ 0 ∷ 10_667_000 ∷ 10_666_700 ∷ 10_666_670 ∷ 10_666_666 ∷ []
unfolding decimal_of of_15_digits magnitude places places_up_to
known_negative = refl

-- what is carried goes up to the day, from less than 0.01 seconds before 1 March 2024, day 45352; the last double
-- before that day is its beginning, since it has 15 digits
pub known_carries : map all_precisions (0x40E6_24FF_FFFF_CA50 ∷ 0x40E6_24FF_FFFF_FFFF ∷ [])
    ≡ (3_918_326_400_000 ∷ 3_918_412_800_000 ∷ 3_918_412_800_000 ∷ 3_918_412_799_990 ∷ 3_918_412_799_991 ∷ [])
    ∷ (3_918_412_800_000 ∷ 3_918_412_800_000 ∷ 3_918_412_800_000 ∷ 3_918_412_800_000 ∷ 3_918_412_800_000 ∷ []) ∷ []
unfolding decimal_of of_15_digits magnitude places places_up_to
known_carries = refl

-- 1.5 days; 0, -0, a subnormal number; 2 ^ 50 days
pub known_days : map (time_of Days) (0x3FF8_0000_0000_0000 ∷ 0 ∷ 0x8000_0000_0000_0000 ∷ 1 ∷ 0x4310_0000_0000_0000 ∷ [])
    ≡ 86_400_000 ∷ 0 ∷ 0 ∷ 0 ∷ 97_277_751_951_202_368_000_000 ∷ []
unfolding decimal_of of_15_digits magnitude places places_up_to
known_days = refl

-- ---- range

abbrev has_moments : Bool → Precision → List Bool
has_moments is_1904 p = map (has_moment is_1904 p) (0 ∷ 0x8000_0000_0000_0000 ∷ 0x8000_0000_0000_0001 ∷ 0xBDDB_7CDF_D9D7_BDBB ∷ 0xBFF0_0000_0000_0000
    ∷ 0x4146_8F65_8000_0000 ∷ 0x4146_8F66_0000_0000 ∷ 0x4146_9240_8000_0000 ∷ 0x4146_9240_FFFF_FF29 ∷ 0x4146_9241_0000_0000 ∷ 0xC146_8F65_8000_0000 ∷ 0xC146_8F66_0000_0000 ∷ [])

-- 0, -0, the first subnormal number below it, -10 ^ -10, -1; 2,957,003 and 2,957,004; 2,958,465, less than
-- half a second before the next day, 2,958,466; -2,957,003 and -2,957,004
pub known_range : has_moments false Days ≡ true ∷ true ∷ true ∷ false ∷ false ∷ true ∷ true ∷ true ∷ true ∷ false ∷ false ∷ false ∷ []
unfolding decimal_of of_15_digits magnitude places places_up_to
known_range = refl

-- seconds are rounded to the next day
pub known_range_of_seconds : has_moments false Seconds ≡ true ∷ true ∷ true ∷ false ∷ false ∷ true ∷ true ∷ true ∷ false ∷ false ∷ false ∷ false ∷ []
unfolding decimal_of of_15_digits magnitude places places_up_to
known_range_of_seconds = refl

pub known_range_of_1904 : map (has_moments true) (Days ∷ Seconds ∷ [])
    ≡ replicate 2 (true ∷ true ∷ true ∷ true ∷ true ∷ true ∷ false ∷ false ∷ false ∷ false ∷ true ∷ false ∷ [])
unfolding decimal_of of_15_digits magnitude places places_up_to
known_range_of_1904 = refl

-- ---- dates

-- days 0, 1, 59, 60 and 61 of the 1900 system, and its last
early : (day : ℕ) (ymd : ℕ × ℕ × ℕ) → 0 < day → day < 60 → IsDayNumber (day_number 1899 12 31 +ℤ pos day) ymd → IsDate false day ymd
early day ymd low high n = record { zero = λ e. absurd (omega arith); early = λ _ _. n; leap = λ e. absurd (omega arith); late = λ l. absurd (omega arith) }

late : (day : ℕ) (ymd : ℕ × ℕ × ℕ) → 60 < day → IsDayNumber (day_number 1899 12 30 +ℤ pos day) ymd → IsDate false day ymd
late day ymd low n = record { zero = λ e. absurd (omega arith); early = λ _ h. absurd (omega arith); leap = λ e. absurd (omega arith); late = λ _. n }

year : (y : ℕ) → y < 10000 → (negsuc 9998 ≤ℤ pos y) × (pos y ≤ℤ pos 9999)
year y p = (omega (arith, ints), omega (arith, ints))

pub known_dates_of_1900 : IsDate false 0 (1900, 1, 0) × IsDate false 1 (1900, 1, 1) × IsDate false 59 (1900, 2, 28) × IsDate false 60 (1900, 2, 29)
    × IsDate false 61 (1900, 3, 1) × IsDate false 45_351 (2024, 2, 29) × IsDate false (last_of false) (9999, 12, 31)
unfolding days_from_civil day_count days_of_years days_of_months
known_dates_of_1900 = (
  record { zero = λ _. refl; early = λ l _. absurd (omega arith); leap = λ e. absurd (omega arith); late = λ l. absurd (omega arith) },
  early 1 (1900, 1, 1) (omega arith) (omega arith) (record { civil = (year 1900 (omega arith), (omega arith, omega arith), (omega arith, omega arith)); counted = refl }),
  early 59 (1900, 2, 28) (omega arith) (omega arith) (record { civil = (year 1900 (omega arith), (omega arith, omega arith), (omega arith, omega arith)); counted = refl }),
  record { zero = λ e. absurd (omega arith); early = λ _ h. absurd (omega arith); leap = λ _. refl; late = λ l. absurd (omega arith) },
  late 61 (1900, 3, 1) (omega arith) (record { civil = (year 1900 (omega arith), (omega arith, omega arith), (omega arith, omega arith)); counted = refl }),
  late 45_351 (2024, 2, 29) (omega arith) (record { civil = (year 2024 (omega arith), (omega arith, omega arith), (omega arith, omega arith)); counted = refl }),
  late 2_958_465 (9999, 12, 31) (omega arith) (record { civil = (year 9999 (omega arith), (omega arith, omega arith), (omega arith, omega arith)); counted = refl }),
)

-- days 0, 58 to 60 of the 1904 system, and its last
pub known_dates_of_1904 : IsDate true 0 (1904, 1, 1) × IsDate true 58 (1904, 2, 28) × IsDate true 59 (1904, 2, 29) × IsDate true 60 (1904, 3, 1)
    × IsDate true (last_of true) (9999, 12, 31)
unfolding days_from_civil day_count days_of_years days_of_months
known_dates_of_1904 = (
  record { civil = (year 1904 (omega arith), (omega arith, omega arith), (omega arith, omega arith)); counted = refl },
  record { civil = (year 1904 (omega arith), (omega arith, omega arith), (omega arith, omega arith)); counted = refl },
  record { civil = (year 1904 (omega arith), (omega arith, omega arith), (omega arith, omega arith)); counted = refl },
  record { civil = (year 1904 (omega arith), (omega arith, omega arith), (omega arith, omega arith)); counted = refl },
  record { civil = (year 9999 (omega arith), (omega arith, omega arith), (omega arith, omega arith)); counted = refl },
)

-- the first eight days: from Saturday on, and from Friday on; 60 and 61 are Wednesday and Thursday, and
-- 45351, 29 February 2024, is a Thursday in both systems
pub known_weekdays : (map (weekday_of false) (0 ∷ 1 ∷ 2 ∷ 3 ∷ 4 ∷ 5 ∷ 6 ∷ 7 ∷ 60 ∷ 61 ∷ 45_351 ∷ []) ≡ 6 ∷ 0 ∷ 1 ∷ 2 ∷ 3 ∷ 4 ∷ 5 ∷ 6 ∷ 3 ∷ 4 ∷ 4 ∷ [])
    × (map (weekday_of true) (0 ∷ 1 ∷ 2 ∷ 3 ∷ 4 ∷ 5 ∷ 6 ∷ 7 ∷ 43_889 ∷ []) ≡ 5 ∷ 6 ∷ 0 ∷ 1 ∷ 2 ∷ 3 ∷ 4 ∷ 5 ∷ 4 ∷ [])
known_weekdays = (refl, refl)

-- ---- moments

abbrev afternoon : ℕ → Moment
afternoon days = record { days = days; year = 2024; month = 2; day = 29; weekday = 4; hour = 14; minute = 5; second = 9; millisecond = 307 }

-- 29 February 2024, 14:05:09.307, in both systems; the last millisecond; the beginning of day 0
pub known_moments : IsMoment false 3_918_377_109_307 (afternoon 45_351) × IsMoment true 3_792_060_309_307 (afternoon 43_889)
    × IsMoment true 255_485_145_599_999 (record { days = 2_957_003; year = 9999; month = 12; day = 31; weekday = 5; hour = 23; minute = 59; second = 59; millisecond = 999 })
    × IsMoment false 0 (record { days = 0; year = 1900; month = 1; day = 0; weekday = 6; hour = 0; minute = 0; second = 0; millisecond = 0 })
unfolding days_from_civil day_count days_of_years days_of_months
known_moments = (
  record { days = refl; date = known_dates_of_1900.5; weekday = refl; hour = refl; minute = refl; second = refl; millisecond = refl },
  record { days = refl; date = record { civil = (year 2024 (omega arith), (omega arith, omega arith), (omega arith, omega arith)); counted = refl }; weekday = refl; hour = refl; minute = refl; second = refl; millisecond = refl },
  record { days = refl; date = known_dates_of_1904.4; weekday = refl; hour = refl; minute = refl; second = refl; millisecond = refl },
  record { days = refl; date = known_dates_of_1900.0; weekday = refl; hour = refl; minute = refl; second = refl; millisecond = refl },
)
