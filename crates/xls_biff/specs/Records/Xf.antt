-- XF ([MS-XLS] 2.4.353): the format identifier (ifmt) in bytes 2 and 3.
use Rattle.std.specs.Prelude.{ℕ, List, take, drop, Result, Ok}
use Rattle.xls_bytes.specs.Numbers.{le}
use Rattle.xls_stream.specs.declared.part.Part.TheVariants as parts
use Rattle.xls_record.specs.declared.error.XlsError.{XlsError}
use Rattle.xls_record.specs.Reading.{◌>>◌, at_least}

abbrev pub xf_at : List ℕ → Result ℕ XlsError
xf_at body = do
  at_least 4 parts.Xf body
  Ok (le (take 2 (drop 2 body)))
