-- A value that is no date has its printed text for a field.
use Rattle.std.proofs.Common.{◌≡◌, ℕ, List, refl, String}
use Rattle.std.specs.Borrow.{Bor}
use Rattle.std.specs.Prelude.{encode_utf8_all}
use Rattle.std.specs.Global.{Global}
use Rattle.std.specs.Str.{chars}
use Rattle.std.specs.String.{string_bytes}
use Rattle.std.proofs.lemmas.Str.{IsUtf8-string_bytes, encodes-chars}
use Rattle.xls_data.specs.Data.{content_of, data_text}
use Rattle.xls_dates.specs.Dates.{DateParts}
use Rattle.xls_data.specs.Refs.{ref_content_of, ref_text}
use Rattle.xls_data.specs.declared.refs.DataRef.{DataRef}
use Rattle.xls_data.specs.declared.refs.DataRef.TheVariants as borrowed
use Rattle.xls_data.specs.declared.values.Data.{Data}
use Rattle.xls_data.specs.declared.values.Data.TheVariants as variant
use Rattle.xls_csv.specs.Fields.{field}

-- a text by its characters
pub text_field : (s : String Global) → encode_utf8_all (chars (string_bytes s)) ≡ string_bytes s
text_field s = encodes-chars (string_bytes s) (IsUtf8-string_bytes s)

pub printed : (value : Data) → ((d : DateParts) → value ≡ variant.DateTime d → ⊥)
    → field (content_of value) ≡ data_text value
printed (variant.Int n) h = refl
printed (variant.Float n) h = refl
printed (variant.String s) h = text_field s
printed (variant.Bool b) h = refl
printed (variant.DateTime d) h = absurd (h d refl)
printed (variant.DateTimeIso s) h = text_field s
printed (variant.DurationIso s) h = text_field s
printed (variant.Error e) h = refl
printed variant.Empty h = refl

-- one that may borrow its text likewise, but for a text that it does borrow
pub printed_ref : (value : DataRef) → ((d : DateParts) → value ≡ borrowed.DateTime d → ⊥)
    → ((s : Bor (List ℕ)) → value ≡ borrowed.SharedString s → ⊥) → field (ref_content_of value) ≡ ref_text value
printed_ref (borrowed.Int n) h u = refl
printed_ref (borrowed.Float n) h u = refl
printed_ref (borrowed.String s) h u = text_field s
printed_ref (borrowed.SharedString s) h u = absurd (u s refl)
printed_ref (borrowed.Bool b) h u = refl
printed_ref (borrowed.DateTime d) h u = absurd (h d refl)
printed_ref (borrowed.DateTimeIso s) h u = text_field s
printed_ref (borrowed.DurationIso s) h u = text_field s
printed_ref (borrowed.Error e) h u = refl
printed_ref borrowed.Empty h u = refl
