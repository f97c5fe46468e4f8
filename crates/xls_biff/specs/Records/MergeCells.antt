-- MergeCells ([MS-XLS] MergeCells): a count (cmcs) in bytes 0 and 1, and for each region (Ref8) the
-- first row, the last row, the first column and the last column.
use Rattle.std.specs.Prelude.{ℕ, ◌+◌, ◌*◌, List, take, drop, Result, Ok}
use Rattle.xls_bytes.specs.Numbers.{le}
use Rattle.xls_stream.specs.declared.part.Part.TheVariants as parts
use Rattle.xls_data.specs.declared.regions.Dimensions.{Dimensions}
use Rattle.xls_record.specs.declared.error.XlsError.{XlsError}
use Rattle.xls_record.specs.Reading.{◌>>◌, at_least, results_listed}

abbrev pub merge_count : List ℕ → Result ℕ XlsError
merge_count body = do
  at_least 2 parts.MergeCells body
  at_least (2 + 8 * le (take 2 body)) parts.MergeCells body
  Ok (le (take 2 body))

-- the region of a number, counted from 0
abbrev pub region_at : List ℕ → ℕ → Dimensions
region_at body i =
    record {
      start = (le (take 2 (drop (2 + 8 * i) body)), le (take 2 (drop (6 + 8 * i) body)));
      end = (le (take 2 (drop (4 + 8 * i) body)), le (take 2 (drop (8 + 8 * i) body)));
    }

abbrev pub merges_at : List ℕ → Result (List Dimensions) XlsError
merges_at body = results_listed (region_at body) (merge_count body)
