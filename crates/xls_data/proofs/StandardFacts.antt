-- Values from outside, so that a wrong rule in the definitions does not check.
use Rattle.std.proofs.Common.{◌≡◌, ℤ, Bool, true, false, Option, Some, None, [], ◌∷◌, map, refl, pos, negsuc, codes}
use Rattle.xls_dates.specs.declared.numbers.Number.TheVariants.{Bits, Whole}
use Rattle.xls_dates.specs.declared.formats.CellFormat.TheVariants.{Other, DateTime, TimeDelta}
use Rattle.xls_bytes.specs.Doubles.{quotient_of}
use Rattle.xls_data.specs.Content.{int, float, truth, date, iso_date, iso_duration, failure, nothing}
use Rattle.xls_data.specs.Errors.{error_text}
use Rattle.xls_data.specs.Kinds.{IsWholeOf}
use Rattle.xls_data.specs.declared.errors.CellErrorType.TheVariants as failures
use Rattle.xls_dates.specs.declared.dates.ExcelDateTimeType.TheVariants as kinds
use Rattle.xls_data.specs.Formatted.{formatted_number, formatted_whole, plain}
use Rattle.xls_dates.specs.declared.numbers.Number.{Number}
use Rattle.xls_dates.specs.declared.formats.CellFormat.{CellFormat}

-- the words of the error values
pub known_words : map error_text (failures.Null ∷ failures.Div0 ∷ failures.Value ∷ failures.Ref ∷ failures.Name ∷ failures.Num ∷ failures.NA ∷ failures.GettingData ∷ [])
    ≡ codes "#NULL!" ∷ codes "#DIV/0!" ∷ codes "#VALUE!" ∷ codes "#REF!" ∷ codes "#NAME?" ∷ codes "#NUM!" ∷ codes "#N/A" ∷ codes "#DATA!" ∷ []
known_words = refl

-- -7, 2.5 and the truth values are whole numbers; dates, texts in ISO 8601, errors and blanks aren't
pub known_wholes : IsWholeOf (int (negsuc 6)) (Some (negsuc 6)) × IsWholeOf (float (Bits 0x4004_0000_0000_0000)) (Some (pos 2))
    × IsWholeOf (truth true) (Some (pos 1)) × IsWholeOf (truth false) (Some (pos 0))
    × IsWholeOf (date (record { number = Whole (pos 1); kind = kinds.DateTime; is_1904 = false })) None
    × IsWholeOf (iso_date (codes "1")) None × IsWholeOf (iso_duration (codes "1")) None
    × IsWholeOf (failure failures.NA) None × IsWholeOf nothing None
unfolding quotient_of
known_wholes = (refl, refl, refl, refl, refl, refl, refl, refl, refl)

-- ---- plain values

-- under every class a number is the same plain value
pub plain_of_formatted : (class : Option CellFormat) (n : Number) (epoch : Bool) → plain (formatted_number class n epoch) ≡ float n
plain_of_formatted (Some Other) n epoch = refl
plain_of_formatted (Some DateTime) n epoch = refl
plain_of_formatted (Some TimeDelta) n epoch = refl
plain_of_formatted None n epoch = refl

-- and so is a whole number
pub plain_of_whole : (class : Option CellFormat) (n : ℤ) (epoch : Bool) → plain (formatted_whole class n epoch) ≡ float (Whole n)
plain_of_whole (Some Other) n epoch = refl
plain_of_whole (Some DateTime) n epoch = refl
plain_of_whole (Some TimeDelta) n epoch = refl
plain_of_whole None n epoch = refl
