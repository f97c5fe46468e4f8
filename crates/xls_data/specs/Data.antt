-- What a value contains, and what it prints.
use Rattle.std.specs.Prelude.{codes, [], ℕ, Bool, true, false, List}
use Rattle.std.specs.Fmt.{signed_decimal}
use Rattle.std.specs.String.{string_bytes}
use Rattle.std.specs.Str.{chars}
use Rattle.xls_dates.specs.Numbers.{number_text}
use Rattle.xls_data.specs.Errors.{error_text}
use Rattle.xls_data.specs.Content.{Content, int, float, text, truth, date, iso_date, iso_duration, failure, nothing}
use Rattle.xls_data.specs.declared.values.Data.{Data}
use Rattle.xls_data.specs.declared.values.Data.TheVariants as variant

-- the content of a value
abbrev pub content_of : Data → Content
content_of (variant.Int n) = int n
content_of (variant.Float n) = float n
content_of (variant.String s) = text (chars (string_bytes s))
content_of (variant.Bool b) = truth b
content_of (variant.DateTime d) = date d
content_of (variant.DateTimeIso s) = iso_date (chars (string_bytes s))
content_of (variant.DurationIso s) = iso_duration (chars (string_bytes s))
content_of (variant.Error e) = failure e
content_of variant.Empty = nothing

-- whether a value is the blank
abbrev pub is_nothing : Data → Bool
is_nothing variant.Empty = true
is_nothing _ = false

-- what a truth value prints
abbrev pub bool_text : Bool → List ℕ
bool_text true = codes "true"
bool_text false = codes "false"

-- what a value prints, in UTF-8
abbrev pub data_text : Data → List ℕ
data_text (variant.Int n) = signed_decimal n
data_text (variant.Float n) = number_text n
data_text (variant.String s) = string_bytes s
data_text (variant.Bool b) = bool_text b
data_text (variant.DateTime d) = number_text d.number
data_text (variant.DateTimeIso s) = string_bytes s
data_text (variant.DurationIso s) = string_bytes s
data_text (variant.Error e) = error_text e
data_text variant.Empty = []
