-- How many bytes the stream has.
use Rattle.std.proofs.Common.{◌≡◌, ℕ, zero, suc, ◌+◌, ◌*◌, [], length, arith}
use Rattle.std.specs.List.{flat_map, range_with_len}
use Rattle.std.proofs.lemmas.List.{length-append}
use Rattle.xls_stream.specs.Stream.{record_bytes}
use Rattle.xls_stream.specs.declared.types.TheConstants as types
use Rattle.xls_command.specs.Sample.{sample_row, sample_rows, sample_stream}

-- 28 bytes for each row
rows_length : (a n : ℕ) → length (flat_map sample_row (range_with_len a n)) ≡ 28 * n
rows_length a zero = omega arith
rows_length a (suc n) = omega (arith, rows_length (a + 1) n)

-- and 64 around them
pub sample_length : (n : ℕ) → length (sample_stream n) ≡ 28 * n + 64
unfolding sample_stream
sample_length n = omega (arith, rows_length 0 n, length-append (sample_rows n) (record_bytes types.EOF []))
