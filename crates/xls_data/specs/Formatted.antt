-- The value that a number has under the class of its format.
use Rattle.std.specs.Prelude.{Bool, ℤ, Option, Some, None}
use Rattle.xls_dates.specs.declared.numbers.Number.{Number}
use Rattle.xls_dates.specs.declared.numbers.Number.TheVariants.{Whole}
use Rattle.xls_dates.specs.declared.dates.ExcelDateTimeType.TheVariants as kind
use Rattle.xls_dates.specs.declared.formats.CellFormat.{CellFormat}
use Rattle.xls_dates.specs.declared.formats.CellFormat.TheVariants as class
use Rattle.xls_data.specs.Content.{Content, int, float, text, truth, date, iso_date, iso_duration, failure, nothing}
use Rattle.xls_dates.specs.Dates.{DateParts}

-- the date or duration that a number is under a class, if it is one
abbrev pub date_of : Option CellFormat → Number → Bool → Option DateParts
date_of (Some class.DateTime) n epoch =
    Some (record { number = n; kind = kind.DateTime; is_1904 = epoch })
date_of (Some class.TimeDelta) n epoch =
    Some (record { number = n; kind = kind.TimeDelta; is_1904 = epoch })
date_of (Some class.Other) n epoch = None
date_of None n epoch = None

-- a date or duration, else another content
abbrev pub date_or : Option DateParts → Content → Content
date_or (Some d) other = date d
date_or None other = other

-- a number: a date or a span, else a float
abbrev pub formatted_number : Option CellFormat → Number → Bool → Content
formatted_number class n epoch = date_or (date_of class n epoch) (float n)

-- a whole number: a date or a span, else an int
abbrev pub formatted_whole : Option CellFormat → ℤ → Bool → Content
formatted_whole class n epoch = date_or (date_of class (Whole n) epoch) (int n)

-- a value without the class of its format: a number for an int, a date or a span, else the value
abbrev pub plain : Content → Content
plain (int n) = float (Whole n)
plain (float n) = float n
plain (text t) = text t
plain (truth b) = truth b
plain (date d) = float d.number
plain (iso_date t) = iso_date t
plain (iso_duration t) = iso_duration t
plain (failure e) = failure e
plain nothing = nothing
