-- Strings without a count: XLUnicodeStringNoCch of [MS-XLS]. The count stands elsewhere, and a string
-- with fewer units is refused.
use Rattle.std.specs.Prelude.{ℕ, ◌+◌, ◌*◌, List, if◌then◌else◌, slice_index, Result, Ok}
use Rattle.xls_stream.specs.StringTable.{is_wide}
use Rattle.xls_stream.specs.declared.part.Part.TheVariants as parts
use Rattle.xls_record.specs.declared.error.XlsError.{XlsError}
use Rattle.xls_record.specs.Reading.{◌>>◌, at_least}

-- a flags byte and so many units
abbrev pub size_by : ℕ → ℕ → ℕ
size_by flags count = if is_wide flags then 1 + 2 * count else 1 + count

-- the bytes of a string of so many units
abbrev pub uncounted_size : ℕ → List ℕ → Result ℕ XlsError
uncounted_size count bytes = do
  at_least 1 parts.NoCch bytes
  at_least (size_by (slice_index bytes 0) count) parts.NoCch bytes
  Ok (size_by (slice_index bytes 0) count)
