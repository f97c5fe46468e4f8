-- Values as the code has them before it makes their texts.
use Rattle.std.specs.Prelude.{◌<◌}
use Rattle.std.specs.Fmt.{decimal, signed_decimal}
use Rattle.xls_dates.specs.Numbers.{bits_text}
use Rattle.xls_props.specs.declared.values.Stored.{Stored}
use Rattle.xls_props.specs.declared.values.Stored.TheVariants as stored
use Rattle.xls_props.specs.Moments.{past_last_day}
use Rattle.xls_props.specs.Values.{Value, Plain, Moment, stored_bool_text, paged_text}

-- what a value shows
abbrev pub stored_value : Stored → Value
stored_value (stored.Short n) = Plain (signed_decimal n)
stored_value (stored.Long n) = Plain (signed_decimal n)
stored_value (stored.Unsigned n) = Plain (decimal n)
stored_value (stored.Double bits) = Plain (bits_text bits)
stored_value (stored.Truth n) = Plain (stored_bool_text n)
stored_value (stored.Text page bytes) = Plain (paged_text page bytes.now)
stored_value (stored.Moment n) = Moment n

-- a moment is one that has a text
abbrev pub StoresText : Stored → Type 0
StoresText (stored.Moment n) = (0 < n) × (n < past_last_day)
StoresText value = Unit {0}
