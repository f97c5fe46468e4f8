-- Known values: the codes of cells, and what they show of contents that are no numbers.
use Rattle.std.proofs.Common.{◌≡◌, ℕ, pos, List, [], ◌∷◌, map, refl, codes, true, false}
use Rattle.std.specs.Str.{chars}
use Rattle.std.specs.Float.{float_with_sign, round_with}
use Rattle.std.specs.Float.Ieee.{of_bits, of_fields, odd, lt, le, eq, ne, div, mul, sub, add, neg, sum, round, units, size, to_unsigned, of_int, to_bits}
use Rattle.std.specs.Fmt.{digits}
use Rattle.xls_bytes.specs.Doubles.{size_of_parts}
use Rattle.xls_rounding.specs.Fractions.{places_up_to, places, magnitude}
use Rattle.xls_rounding.specs.Rounding.{of_15_digits, decimal_of}
use Rattle.xls_shown_numbers.specs.Digits.{last_digits}
use Rattle.xls_dates.specs.Numbers.{sixteen_digits}
use Rattle.xls_dates.specs.declared.numbers.Number.TheVariants.{Bits, Hundredths}
use Rattle.xls_dates.specs.declared.dates.ExcelDateTimeType.TheVariants as kind
use Rattle.xls_data.specs.Content.{Content, int, float, date, text, truth, failure, nothing}
use Rattle.xls_data.specs.declared.errors.CellErrorType.TheVariants.{NA, Div0}
use Rattle.xls_cell_formats.specs.CellCodes.{code_of_xf}
use Rattle.xls_cell_formats.specs.Contents.{IsContentShown}

-- two formats of one identifier, one of a built-in identifier, and one of an identifier that counts for no class
abbrev formats : List (ℕ × List ℕ)
formats = (0xA4, codes "0.0") ∷ (0x0E, codes "yyyy") ∷ (0x32, codes "[h]") ∷ (0xA4, codes "@") ∷ []

-- the last of two, the workbook's own in place of a built-in one, one of 0x32, built-in ones, two without a code, and an XF that isn't there
pub known_codes : map (code_of_xf formats (0xA4 ∷ 0x0E ∷ 0x32 ∷ 0x31 ∷ 0x14 ∷ 0x17 ∷ 0xA5 ∷ [])) (0 ∷ 1 ∷ 2 ∷ 3 ∷ 4 ∷ 5 ∷ 6 ∷ 7 ∷ 0xFFFF ∷ [])
    ≡ codes "@" ∷ codes "yyyy" ∷ codes "[h]" ∷ codes "@" ∷ codes "h:mm" ∷ codes "General" ∷ codes "General" ∷ codes "General" ∷ codes "General" ∷ []
unfolding chars
known_codes = refl

-- each code shows its content as its text
abbrev AreShown : List (List ℕ × Content × List ℕ) → Type 0
AreShown [] = Unit {0}
AreShown (row ∷ rows) = IsContentShown row.0 false row.1 row.2 × AreShown rows

-- texts and truth values by the section for texts, errors as they are, and blanks not at all
pub known_contents : AreShown ((codes "0;0;0;<@>", text (codes "a"), codes "<a>") ∷ (codes "0;0;0;<@>", truth true, codes "<TRUE>")
    ∷ (codes "0;0;0;<@>", failure NA, codes "#N/A") ∷ (codes "0;0;0;<@>", nothing, []) ∷ (codes ";;;", text (codes "a"), [])
    ∷ (codes ";;;", truth false, []) ∷ (codes ";;;", failure Div0, codes "#DIV/0!") ∷ (codes "h:mm", truth false, codes "FALSE")
    ∷ (codes "General", text (codes "12"), codes "12") ∷ [])
unfolding chars
known_contents = (refl, (refl, (refl, (refl, (refl, (refl, (refl, (refl, (refl, tt)))))))))

-- numbers whatever class they were given: a whole one, one of hundredths, and a duration
pub known_numbers : AreShown ((codes "0.0", int (pos 3), codes "3.0") ∷ (codes "0.0", float (Hundredths (pos 250)), codes "2.5")
    ∷ (codes "0%", date (record { number = Bits 0x3FE0_0000_0000_0000; kind = kind.TimeDelta; is_1904 = false }), codes "50%") ∷ [])
unfolding to_bits decimal_of of_15_digits magnitude places places_up_to last_digits digits of_bits of_fields odd lt le eq ne div mul sub add neg sum round units size to_unsigned of_int round_with float_with_sign
known_numbers = (refl, (refl, (refl, tt)))

-- an infinity, in decimal whatever the code
pub known_infinity : IsContentShown (codes "0.0") false (float (Bits 0x7FF0_0000_0000_0000)) (codes "0x7ff0000000000000")
unfolding chars size_of_parts sixteen_digits digits
known_infinity = (codes "0x7ff0000000000000", refl, refl)
