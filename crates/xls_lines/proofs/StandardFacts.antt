-- A known text, so that a wrong rule of a field does not check.
use Rattle.std.proofs.Common.{◌≡◌, [], ◌∷◌, map, refl, sym, arith, true, false, negsuc, codes, lit<}
use Rattle.std.specs.Fmt.{digits}
use Rattle.jiff_core.specs.Calendar.{days_from_civil, day_count, days_of_years, days_of_months}
use Rattle.jiff_core.proofs.SignedLemmas.{signed_arith}
use Rattle.xls_lines.specs.Days.{days_after, date_text, serial_date}
use Rattle.xls_lines.proofs.DayLemmas.{serial_is}
use Rattle.xls_lines.specs.Lines.{escaped_text, line, field_text}
use Rattle.xls_lines.specs.declared.field.Field.TheVariants.{Int}

-- a tab is escaped, and a letter outside ASCII has two bytes
pub known_text : escaped_text (65 ∷ 9 ∷ 233 ∷ []) ≡ 65 ∷ 92 ∷ 116 ∷ 195 ∷ 169 ∷ []
unfolding lib.Utf8.encode
known_text = refl

-- a word and two fields
pub known_line : line (codes "cell") (codes "4" ∷ field_text (Int (negsuc 11)) ∷ []) ≡ codes "cell\t4\t-12\n"
unfolding digits
known_line = refl

-- ---- dates

-- days of Excel: its first day, the day that the calendar lacks with those beside it, and 1 January 2020
pub known_days : map (serial_date false) (1 ∷ 59 ∷ 60 ∷ 61 ∷ 366 ∷ 367 ∷ [])
    ≡ (1900, 1, 1) ∷ (1900, 2, 28) ∷ (1900, 2, 29) ∷ (1900, 3, 1) ∷ (1900, 12, 31) ∷ (1901, 1, 1) ∷ []
unfolding days_after
known_days = refl

pub known_days_of_1904 : map (serial_date true) (0 ∷ 59 ∷ 60 ∷ 366 ∷ []) ≡ (1904, 1, 1) ∷ (1904, 2, 29) ∷ (1904, 3, 1) ∷ (1905, 1, 1) ∷ []
unfolding days_after
known_days_of_1904 = refl

-- the last days of both systems
pub known_last : (serial_date false 0x2D_2481 ≡ (9999, 12, 31)) × (serial_date true 0x2D_1ECB ≡ (9999, 12, 31))
unfolding days_from_civil day_count days_of_years days_of_months
known_last = (
  sym (serial_is false 0x2D_2481 (9999, 12, 31) (lit< tt) (λ e f. absurd (omega (arith, f))) (λ e f. absurd (omega (arith, f))) (λ e f g. record {
    civil = (omega (arith, signed_arith), (omega arith, omega arith), (omega arith, omega arith));
    counted = refl;
  }) (λ e. absurd cc)),
  sym (serial_is true 0x2D_1ECB (9999, 12, 31) (lit< tt) (λ e. absurd cc) (λ e. absurd cc) (λ e. absurd cc) (λ e f. record {
    civil = (omega (arith, signed_arith), (omega arith, omega arith), (omega arith, omega arith));
    counted = refl;
  })),
)

pub known_dates : map date_text ((2020, 2, 9) ∷ (1900, 1, 1) ∷ (9999, 12, 31) ∷ []) ≡ codes "2020-02-09" ∷ codes "1900-01-01" ∷ codes "9999-12-31" ∷ []
known_dates = refl
