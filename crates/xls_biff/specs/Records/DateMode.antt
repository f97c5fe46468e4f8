-- DateMode ([MS-XLS] 2.4.77): 1 in bytes 0 and 1 sets the date system of 1904.
use Rattle.std.specs.Prelude.{ℕ, List, Bool, ◌==◌, take, Result, Ok}
use Rattle.xls_bytes.specs.Numbers.{le}
use Rattle.xls_stream.specs.declared.part.Part.TheVariants as parts
use Rattle.xls_record.specs.declared.error.XlsError.{XlsError}
use Rattle.xls_record.specs.Reading.{◌>>◌, at_least}

-- whether it sets 1904
abbrev pub date_mode_at : List ℕ → Result Bool XlsError
date_mode_at body = do
  at_least 2 parts.DateMode body
  Ok (le (take 2 body) == 1)
