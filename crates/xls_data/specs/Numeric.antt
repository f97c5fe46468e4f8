-- What a number under the class of its format contains.
use Rattle.xls_data.specs.Content.{Content, int, float, date}
use Rattle.xls_dates.specs.declared.dates.ExcelDateTimeType.TheVariants as kind
use Rattle.xls_data.specs.declared.numeric.Numeric.{Numeric}
use Rattle.xls_data.specs.declared.numeric.Numeric.TheVariants as variant

-- the content of such a value
abbrev pub numeric_content : Numeric → Content
numeric_content (variant.Int n) = int n
numeric_content (variant.Float n) = float n
numeric_content (variant.DateTime n epoch) = date (record { number = n; kind = kind.DateTime; is_1904 = epoch })
numeric_content (variant.TimeDelta n epoch) = date (record { number = n; kind = kind.TimeDelta; is_1904 = epoch })
