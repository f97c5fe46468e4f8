-- What a date or a duration consists of.
use Rattle.std.specs.Prelude.{Bool}
use Rattle.xls_dates.specs.declared.numbers.Number.{Number}
use Rattle.xls_dates.specs.declared.dates.ExcelDateTimeType.{ExcelDateTimeType}

-- a number of days, whether it is a day or a span, and whether days count from 1904
pub record DateParts : Type 0 where
  pub number : Number
  pub kind : ExcelDateTimeType
  pub is_1904 : Bool
