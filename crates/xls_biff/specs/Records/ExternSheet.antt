-- ExternSheet ([MS-XLS] 2.4.106): a count (cXTI) in bytes 0 and 1, and XTI structures of six bytes;
-- before BIFF8 it is not read. That a structure's workbook (iSupBook) isn't looked at is this project's rule.
use Rattle.std.specs.Prelude.{ℕ, ◌+◌, ◌-◌, ◌*◌, ◌/◌, min, ℤ, List, [], if◌then◌else◌, length, take, drop, Result, Ok}
use Rattle.xls_bytes.specs.Numbers.{le, twos_complement}
use Rattle.xls_stream.specs.declared.part.Part.TheVariants as parts
use Rattle.xls_record.specs.declared.version.Biff.{Biff}
use Rattle.xls_record.specs.declared.error.XlsError.{XlsError}
use Rattle.xls_record.specs.Reading.{◌>>◌, at_least, results_listed}
use Rattle.xls_record.specs.Version.{is_biff8}

-- the whole structures, at most the count
abbrev pub refs_count : List ℕ → Result ℕ XlsError
refs_count body = do
  at_least 2 parts.ExternSheet body
  Ok (min (le (take 2 body)) ((length body - 2) / 6))

-- the first sheet (itabFirst) of the structure of a number, counted from 0
abbrev pub ref_at : List ℕ → ℕ → ℤ
ref_at body i = twos_complement 16 (le (take 2 (drop (4 + 6 * i) body)))

abbrev pub refs_at : Biff → List ℕ → Result (List ℤ) XlsError
refs_at biff body = if is_biff8 biff then results_listed (ref_at body) (refs_count body) else Ok []
