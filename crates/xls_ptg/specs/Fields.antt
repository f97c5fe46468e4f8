-- Numbers in the bytes of a token, and the refusal of too few bytes.
use Rattle.std.specs.Prelude.{ℕ, List, length, take, drop, nat_lt, if◌then◌else◌, Result, Err}
use Rattle.xls_bytes.specs.Numbers.{le}
use Rattle.xls_stream.specs.declared.part.Part.{Part}
use Rattle.xls_stream.specs.declared.part.Part.TheVariants as parts
use Rattle.xls_record.specs.declared.error.XlsError.{XlsError}
use Rattle.xls_record.specs.declared.error.XlsError.TheVariants as errors

-- the number in two bytes at a place
abbrev pub word_at : ℕ → List ℕ → ℕ
word_at at bytes = le (take 2 (drop at bytes))

-- what is read where so many bytes of a part are there
abbrev pub sized_as : {X : Type 0} → Part → ℕ → List ℕ → Result X XlsError → Result X XlsError
sized_as part size bytes read =
    if nat_lt (length bytes) size then Err (errors.Len size (length bytes) part) else read

abbrev pub sized : {X : Type 0} → ℕ → List ℕ → Result X XlsError → Result X XlsError
sized size bytes read = sized_as parts.Ptg size bytes read
