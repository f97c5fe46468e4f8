-- The texts of cells.
use Rattle.std.proofs.Common.{◌≡◌, ℕ, refl, sym, ap, String, Global}
use Rattle.std.specs.Prelude.{encode_utf8_all}
use Rattle.std.specs.Str.{chars}
use Rattle.std.specs.String.{string_bytes}
use Rattle.std.proofs.lemmas.Str.{encodes-chars, IsUtf8-string_bytes}
use Rattle.xls_data.specs.declared.values.Data.{Data}
use Rattle.xls_data.specs.declared.values.Data.TheVariants as variant
use Rattle.xls_data.specs.Data.{content_of, data_text}
use Rattle.std.specs.Prelude.{Some, None, Ok, Err}
use Rattle.std.proofs.lemmas.Option.{none-some, same_Some}
use Rattle.xls_data.specs.Content.{Content, int, float, text, truth, date, iso_date, iso_duration, failure, nothing}
use Rattle.xls_data.specs.Kinds.{failure_in}
use Rattle.xls_data.specs.declared.errors.CellErrorType.{CellErrorType}
use Rattle.xls_rows.specs.Refusals.{cell_error}
use Rattle.xls_rows.specs.Readers.{text_read}
use Rattle.xls_rows.specs.Texts.{printed}

-- a text is the bytes of its characters
pub text_bytes : (s : String Global) → encode_utf8_all (chars (string_bytes s)) ≡ string_bytes s
text_bytes s = encodes-chars (string_bytes s) (IsUtf8-string_bytes s)

-- what a value prints follows from its content
pub printed_is : (d : Data) → printed (content_of d) ≡ data_text d
printed_is (variant.Int n) = refl
printed_is (variant.Float x) = refl
printed_is (variant.String s) = text_bytes s
printed_is (variant.Bool b) = refl
printed_is (variant.DateTime d) = refl
printed_is (variant.DateTimeIso s) = text_bytes s
printed_is (variant.DurationIso s) = text_bytes s
printed_is (variant.Error e) = refl
printed_is variant.Empty = refl

-- only an error cell has no text
pub text_in_printed : (place : ℕ × ℕ) (c : Content) → failure_in c ≡ None → text_read place c ≡ Ok (printed c)
text_in_printed place (int n) e = refl
text_in_printed place (float x) e = refl
text_in_printed place (text cs) e = refl
text_in_printed place (truth b) e = refl
text_in_printed place (date d) e = refl
text_in_printed place (iso_date cs) e = refl
text_in_printed place (iso_duration cs) e = refl
text_in_printed place (failure k) e = absurd (none-some k (sym e))
text_in_printed place nothing e = refl

pub text_in_failure : (place : ℕ × ℕ) (c : Content) (k : CellErrorType) → failure_in c ≡ Some k → text_read place c ≡ Err (cell_error k place)
text_in_failure place (failure j) k e = ap (λ i. Err (cell_error i place)) (same_Some j k e)
text_in_failure place c k e = absurd (none-some k e)
