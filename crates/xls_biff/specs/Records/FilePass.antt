-- FilePass ([MS-XLS] 2.4.117): the kind of encryption (wEncryptionType) in bytes 0 and 1. 0 is XOR obfuscation: that the
-- records of such a workbook are read as they stand is this project's rule. Under every other kind nothing is read.
use Rattle.std.specs.Prelude.{ℕ, List, ◌==◌, if◌then◌else◌, take, Result, Ok, Err}
use Rattle.xls_bytes.specs.Numbers.{le}
use Rattle.xls_stream.specs.declared.part.Part.TheVariants as parts
use Rattle.xls_record.specs.declared.error.XlsError.{XlsError}
use Rattle.xls_record.specs.declared.error.XlsError.TheVariants.{Password}
use Rattle.xls_record.specs.Reading.{◌>>◌, at_least}

abbrev pub file_pass_at : List ℕ → Result (Unit {0}) XlsError
file_pass_at body = do
  at_least 2 parts.FilePass body
  if le (take 2 body) == 0 then Ok tt else Err Password
