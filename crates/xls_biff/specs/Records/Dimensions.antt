-- Dimensions ([MS-XLS] Dimensions): the first row, the row after the last, and likewise the columns;
-- rows of 32 bits in BIFF8, of 16 bits before.
use Rattle.std.specs.Prelude.{ℕ, ◌-◌, List, ◌||◌, ◌&&◌, ◌==◌, if◌then◌else◌, nat_lt, length, take, drop, Result, Ok, Err}
use Rattle.xls_bytes.specs.Numbers.{le}
use Rattle.xls_stream.specs.declared.part.Part.TheVariants as parts
use Rattle.xls_data.specs.declared.regions.Dimensions.{Dimensions}
use Rattle.xls_record.specs.declared.error.XlsError.{XlsError}
use Rattle.xls_record.specs.declared.error.XlsError.TheVariants.{Len}

-- a first column that passes 255 or the column after the last becomes 0: this project's rule
abbrev pub first_within : ℕ → ℕ → ℕ
first_within first following = if nat_lt 0xFF first || nat_lt following first then 0 else first

-- the bounds by the first row, the row after the last, and likewise the columns; without a row or a
-- column they end where they start
abbrev pub bounds : ℕ → ℕ → ℕ → ℕ → Dimensions
bounds row below column following =
    record {
      start = (row, first_within column following);
      end = (if nat_lt 0 below && nat_lt 0 following then (below - 1, following - 1)
          else (row, first_within column following));
    }

abbrev pub dimensions_at : List ℕ → Result Dimensions XlsError
dimensions_at body =
    if length body == 10
    then Ok (bounds (le (take 2 (drop 0 body))) (le (take 2 (drop 2 body))) (le (take 2 (drop 4 body))) (le (take 2 (drop 6 body))))
    else if length body == 14 || length body == 16
    then Ok (bounds (le (take 4 (drop 0 body))) (le (take 4 (drop 4 body))) (le (take 2 (drop 8 body))) (le (take 2 (drop 10 body))))
    else Err (Len 14 (length body) parts.Dimensions)
