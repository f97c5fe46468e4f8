-- What a value with a borrowed text contains, and what it prints.
use Rattle.std.specs.Prelude.{[], ℕ, Bool, true, false, List}
use Rattle.std.specs.Fmt.{signed_decimal}
use Rattle.std.specs.String.{string_bytes}
use Rattle.std.specs.Str.{chars, IsUtf8}
use Rattle.xls_dates.specs.Numbers.{number_text}
use Rattle.xls_data.specs.Errors.{error_text}
use Rattle.xls_data.specs.Data.{bool_text}
use Rattle.xls_data.specs.Content.{Content, int, float, text, truth, date, iso_date, iso_duration, failure, nothing}
use Rattle.xls_data.specs.declared.refs.DataRef.{DataRef}
use Rattle.xls_data.specs.declared.refs.DataRef.TheVariants as variant

-- the content of a value; a shared text is a text
abbrev pub ref_content_of : DataRef → Content
ref_content_of (variant.Int n) = int n
ref_content_of (variant.Float n) = float n
ref_content_of (variant.String s) = text (chars (string_bytes s))
ref_content_of (variant.SharedString s) = text (chars s.now)
ref_content_of (variant.Bool b) = truth b
ref_content_of (variant.DateTime d) = date d
ref_content_of (variant.DateTimeIso s) = iso_date (chars (string_bytes s))
ref_content_of (variant.DurationIso s) = iso_duration (chars (string_bytes s))
ref_content_of (variant.Error e) = failure e
ref_content_of variant.Empty = nothing

-- whether its text is a shared one
abbrev pub is_shared : DataRef → Bool
is_shared (variant.SharedString s) = true
is_shared _ = false

-- a shared text is UTF-8, as every `&str` is
abbrev pub HasText : DataRef → Type 0
HasText (variant.SharedString s) = IsUtf8 s.now
HasText _ = Unit {0}

-- whether a value is the blank
abbrev pub is_ref_nothing : DataRef → Bool
is_ref_nothing variant.Empty = true
is_ref_nothing _ = false

-- what a value prints, in UTF-8
abbrev pub ref_text : DataRef → List ℕ
ref_text (variant.Int n) = signed_decimal n
ref_text (variant.Float n) = number_text n
ref_text (variant.String s) = string_bytes s
ref_text (variant.SharedString s) = s.now
ref_text (variant.Bool b) = bool_text b
ref_text (variant.DateTime d) = number_text d.number
ref_text (variant.DateTimeIso s) = string_bytes s
ref_text (variant.DurationIso s) = string_bytes s
ref_text (variant.Error e) = error_text e
ref_text variant.Empty = []
