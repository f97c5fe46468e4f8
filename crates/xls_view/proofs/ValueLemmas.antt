-- The text in a value.
use Rattle.std.proofs.Common.{◌≡◌, ℕ, List, [], refl, ap, Result}
use Rattle.xls_data.specs.Numeric.{numeric_content}
use Rattle.xls_data.specs.declared.numeric.Numeric.{Numeric}
use Rattle.xls_data.specs.declared.numeric.Numeric.TheVariants.{Int, Float, DateTime, TimeDelta}
use Rattle.xls_record.specs.declared.error.XlsError.{XlsError}
use Rattle.xls_record.specs.declared.error.XlsError.TheVariants as errors
use Rattle.xls_record.specs.Reading.{Fails}
use Rattle.xls_biff.specs.Cells.{characters_in}
use Rattle.xls_view.specs.Values.{value_text}

-- a number is no text
pub no_text : (n : Numeric) → value_text (numeric_content n) ≡ []
no_text (Int n) = refl
no_text (Float n) = refl
no_text (DateTime n epoch) = refl
no_text (TimeDelta n epoch) = refl

-- a string with a fault has no characters
pub no_characters : (d : Result (List ℕ) XlsError) (e : XlsError) → (e ≡ errors.Memory → ⊥) → Fails e d → characters_in d ≡ []
no_characters d errors.Memory h f = absurd (h refl)
no_characters d e h f = ap characters_in f
