-- Values from outside, so that a wrong rule in the definitions does not check.
use Rattle.std.proofs.Common.{◌≡◌, [], ◌∷◌, map, refl, pos, negsuc, true, false, codes, Some, None}
use Rattle.std.specs.Fmt.{digits}
use Rattle.csv.specs.Writing.{escaped, fields_text, is_blank}
use Rattle.xls_bytes.specs.Doubles.{size_of_parts}
use Rattle.xls_data.specs.Content.{int, text, date, truth, nothing}
use Rattle.xls_dates.specs.declared.numbers.Number.TheVariants.{Bits, Whole, Hundredths}
use Rattle.xls_dates.specs.declared.dates.ExcelDateTimeType.TheVariants.{DateTime}
use Rattle.xls_lines.specs.Days.{days_after}
use Rattle.xls_csv.specs.Dates.{day_in}
use Rattle.xls_csv.specs.Dense.{sheet_csv}
use Rattle.xls_csv.specs.Text.{row_csv}

-- a day has no time of day, and isn't below 1 nor past the last one; a duration is no day
pub known_counted : map (λ n. day_in DateTime n false) (Whole (pos 0) ∷ Whole (pos 1) ∷ Whole (negsuc 0) ∷ Whole (pos 2958465) ∷ Whole (pos 2958466) ∷ Hundredths (pos 4383100) ∷ Hundredths (pos 4383150) ∷ Bits 0x40e566e000000000 ∷ [])
    ≡ None ∷ Some 1 ∷ None ∷ Some 2958465 ∷ None ∷ Some 43831 ∷ None ∷ Some 43831 ∷ []
unfolding size_of_parts
known_counted = refl

-- the fields of CSV: quotes where a comma or a quote stands, and where a row has no byte
pub known_rows : map row_csv ((text (codes "a,b") ∷ text (codes "say \"x\"") ∷ []) ∷ (truth true ∷ nothing ∷ int (negsuc 0) ∷ []) ∷ (nothing ∷ []) ∷ (nothing ∷ nothing ∷ []) ∷ [])
    ≡ codes "\"a,b\",\"say \"\"x\"\"\"\n" ∷ codes "true,,-1\n" ∷ codes "\"\"\n" ∷ codes ",\n" ∷ []
unfolding escaped fields_text is_blank digits lib.Utf8.encode
known_rows = refl

-- a day in the second column of the dense box, three rows below the cell in its first
pub known_sheet : sheet_csv (((2, 1), truth true) ∷ ((5, 2), date (record { number = Whole (pos 61); kind = DateTime; is_1904 = false })) ∷ [])
    ≡ codes "true,\n,\n,\n,1900-03-01\n"
unfolding escaped fields_text is_blank digits days_after
known_sheet = refl

pub known_empty : sheet_csv [] ≡ []
known_empty = refl
