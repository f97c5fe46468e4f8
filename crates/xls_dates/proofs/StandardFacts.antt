-- Values from outside, so that a wrong rule in the definitions does not check.
use Rattle.std.proofs.Common.{◌≡◌, None, [], ◌∷◌, ◌++◌, map, replicate, refl, pos, negsuc, ◌+ℤ◌, codes}
use Rattle.std.specs.Fmt.{digits}
use Rattle.xls_dates.specs.declared.numbers.Number.TheVariants.{Bits, Whole, Hundredths, BitsOver100}
use Rattle.xls_dates.specs.declared.formats.CellFormat.TheVariants.{Other, DateTime, TimeDelta}
use Rattle.xls_bytes.specs.Doubles.{size_of_parts, quotient_of}
use Rattle.xls_dates.specs.Builtin.{class_of_code, class_of_id}
use Rattle.xls_dates.specs.Classes.{class_of}
use Rattle.xls_dates.specs.Numbers.{number_text, number_trunc, number_trunc_checked, sixteen_digits}
use Rattle.xls_dates.specs.SerialDays.{day_number, last_day, last_day_of_1904}
use Rattle.jiff_core.specs.Calendar.{days_from_civil, day_count, days_of_years, days_of_months}

-- hundredths of -5, 150 and 100, and of -101
pub known_hundredths : map number_text (Hundredths (negsuc 4) ∷ Hundredths (pos 150) ∷ Hundredths (pos 100) ∷ Hundredths (negsuc 100) ∷ [])
    ≡ codes "-0.05" ∷ codes "1.5" ∷ codes "1" ∷ codes "-1.01" ∷ []
unfolding digits
known_hundredths = refl

-- negative zero, the greatest whole number that counts as one, the next double
pub known_doubles : map number_text (Bits 0x8000_0000_0000_0000 ∷ Bits 0x433f_ffff_ffff_ffff ∷ Bits 0x4340_0000_0000_0000 ∷ [])
    ≡ codes "-0" ∷ codes "9007199254740991" ∷ codes "0x4340000000000000" ∷ []
unfolding digits sixteen_digits size_of_parts
known_doubles = refl

-- 100 over 100, and 2.5 over 100
pub known_over_100 : map number_text (BitsOver100 0x4059_0000_0000_0000 ∷ BitsOver100 0x4004_0000_0000_0000 ∷ [])
    ≡ codes "1" ∷ codes "0x4004000000000000/100" ∷ []
unfolding digits sixteen_digits size_of_parts
known_over_100 = refl

-- -1.99 and 1.99 are cut to -1 and 1, 2.5 to 2
pub known_cuts : map number_trunc (Hundredths (negsuc 198) ∷ Hundredths (pos 199) ∷ Whole (negsuc 6) ∷ Bits 0x4004_0000_0000_0000 ∷ [])
    ≡ negsuc 0 ∷ pos 1 ∷ negsuc 6 ∷ pos 2 ∷ []
unfolding quotient_of
known_cuts = refl

-- infinity is no whole number
pub known_infinity : number_trunc_checked (Bits 0x7ff0_0000_0000_0000) ≡ None
known_infinity = refl

-- formats of calamine's own tests: dates, durations, others
pub known_dates : map class_of (codes "DD/MM/YY" ∷ codes "m\"M\"d\"D\";@" ∷ codes "[$-404]e\"\\xfc\"m\"\\xfc\"d\"\\xfc\"" ∷ codes "ha/p\\\\m" ∷ codes "*-yyyy-mm-dd" ∷ codes "H:MM:SS;@" ∷ [])
    ≡ replicate 6 DateTime
known_dates = refl

pub known_spans : map class_of (codes "[h]" ∷ codes "[ss]" ∷ codes "[s].000" ∷ codes "[m]" ∷ codes "[mm]" ∷ codes "[Blue]\\+[h]:mm;[Red]\\-[h]:mm;[Green][h]:mm" ∷ codes "[>=100][Magenta][s].00" ∷ codes "[h]:mm;[=0]\\-" ∷ codes "[h]:mm:ss" ∷ [])
    ≡ replicate 9 TimeDelta
known_spans = refl

pub known_others : map class_of (codes "#,##0\\ [$\\u20bd-46D]" ∷ codes "\"Y: \"0.00\"m\";\"Y: \"-0.00\"m\";\"Y: <num>m\";@" ∷ codes "#,##0\\ [$''u20bd-46D]" ∷ codes "\"$\"#,##0_);[Red](\"$\"#,##0)" ∷ codes "0_ ;[Red]\\-0" ∷ codes "#,##0.0####\" YMD\"" ∷ codes "[>=100][Magenta].00" ∷ codes "[>=100][Magenta]General" ∷ codes "#,##0.00\\ _M\"H\"_);[Red]#,##0.00\\ _M\"S\"_)" ∷ codes "0\"x\"*d" ∷ codes "*-#,##0" ∷ codes "#,##0*y" ∷ codes "\\Y000000" ∷ [])
    ≡ replicate 13 Other
known_others = refl

-- one letter alone, both marks of the halves of a day, and what is no letter of a date
pub known_letters : map class_of (codes "s" ∷ codes "ss.0" ∷ codes "y" ∷ codes "m" ∷ codes "h" ∷ codes "d" ∷ codes "AM/PM" ∷ codes "a/p" ∷ codes "\"a\"m" ∷ codes "ahm" ∷ codes "a" ∷ codes "ad" ∷ codes "p" ∷ codes "[d]" ∷ codes "\"d\\\"d\"" ∷ [])
    ≡ DateTime ∷ DateTime ∷ DateTime ∷ DateTime ∷ DateTime ∷ DateTime ∷ DateTime ∷ DateTime ∷ DateTime ∷ DateTime ∷ Other ∷ Other ∷ Other ∷ Other ∷ Other ∷ []
known_letters = refl

-- brackets in brackets, and what else stands in them: by the rules that the definitions state
pub known_brackets : map class_of (codes "[[h]]" ∷ codes "[h[]]" ∷ codes "][h]" ∷ codes "[Hh\"x\"]" ∷ codes "[h\\hh]" ∷ codes "a\\[h[]" ∷ codes "[hm]" ∷ codes "[h;]" ∷ codes "[xh]" ∷ codes "[[h]x]" ∷ codes "\\[[]" ∷ codes "[h\\xh]" ∷ [])
    ≡ TimeDelta ∷ TimeDelta ∷ TimeDelta ∷ TimeDelta ∷ TimeDelta ∷ TimeDelta ∷ Other ∷ Other ∷ Other ∷ Other ∷ Other ∷ Other ∷ []
known_brackets = refl

-- the built-in identifiers: dates from 0E to 16, from 1B to 24, 2D, 2F and from 32 to 3A; the duration 2E
pub known_codes : map class_of_code (0x00 ∷ 0x01 ∷ 0x02 ∷ 0x03 ∷ 0x04 ∷ 0x05 ∷ 0x06 ∷ 0x07 ∷ 0x08 ∷ 0x09 ∷ 0x0A ∷ 0x0B ∷ 0x0C ∷ 0x0D ∷ 0x0E ∷ 0x0F ∷ 0x10 ∷ 0x11 ∷ 0x12 ∷ 0x13 ∷ 0x14 ∷ 0x15 ∷ 0x16 ∷ 0x17 ∷ 0x18 ∷ 0x19 ∷ 0x1A ∷ 0x1B ∷ 0x1C ∷ 0x1D ∷ 0x1E ∷ 0x1F ∷ [])
    ≡ replicate 14 Other ++ replicate 9 DateTime ++ replicate 4 Other ++ replicate 5 DateTime
known_codes = refl

pub known_later_codes : map class_of_code (0x20 ∷ 0x21 ∷ 0x22 ∷ 0x23 ∷ 0x24 ∷ 0x25 ∷ 0x26 ∷ 0x27 ∷ 0x28 ∷ 0x29 ∷ 0x2A ∷ 0x2B ∷ 0x2C ∷ 0x2D ∷ 0x2E ∷ 0x2F ∷ 0x30 ∷ 0x31 ∷ 0x32 ∷ 0x33 ∷ 0x34 ∷ 0x35 ∷ 0x36 ∷ 0x37 ∷ 0x38 ∷ 0x39 ∷ 0x3A ∷ 0x3B ∷ 0x3C ∷ 0x3D ∷ 0x3E ∷ 0x3F ∷ [])
    ≡ replicate 5 DateTime ++ replicate 8 Other ++ DateTime ∷ TimeDelta ∷ DateTime ∷ Other ∷ Other ∷ replicate 9 DateTime ++ replicate 5 Other
known_later_codes = refl

pub known_ids : map class_of_id (codes "14" ∷ codes "46" ∷ codes "046" ∷ codes "+46" ∷ [])
    ≡ DateTime ∷ TimeDelta ∷ Other ∷ Other ∷ []
known_ids = refl

-- ---- days

-- 1904-01-01 is 1,462 days after 1899-12-31, and 9999-12-31 is 2,958,465 days after 1899-12-30
pub known_days : (day_number 1904 1 1 ≡ negsuc 24106) × (day_number 1899 12 31 ≡ negsuc 25567)
    × (day_number 1899 12 30 ≡ negsuc 25568) × (day_number 9999 12 31 ≡ pos 2932896)
unfolding days_from_civil day_count days_of_years days_of_months
known_days = (refl, refl, refl, refl)

-- so that is the last day of the 1900 system, and 1904-01-01 is day 0 of the other one
pub known_last_days : (day_number 9999 12 31 ≡ day_number 1899 12 30 +ℤ pos last_day)
    × (day_number 9999 12 31 ≡ day_number 1904 1 1 +ℤ pos last_day_of_1904)
unfolding days_from_civil day_count days_of_years days_of_months
known_last_days = (refl, refl)
