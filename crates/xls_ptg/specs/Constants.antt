-- Constants ([MS-XLS] 2.5.198).
use Rattle.std.specs.Prelude.{ℕ, List, take, slice_index, not, ◌==◌, Result, Ok, Err}
use Rattle.xls_record.specs.Reading.{gives}
use Rattle.xls_bytes.specs.Numbers.{le}
use Rattle.xls_stream.specs.declared.part.Part.TheVariants as parts
use Rattle.xls_data.specs.declared.errors.CellErrorType.{CellErrorType}
use Rattle.xls_biff.specs.Cells.{cell_error}
use Rattle.xls_record.specs.declared.error.XlsError.{XlsError}
use Rattle.xls_record.specs.declared.error.XlsError.TheVariants as errors
use Rattle.xls_ptg.specs.declared.tokens.Ptg.TheVariants as ptg
use Rattle.xls_ptg.specs.Fields.{word_at, sized}
use Rattle.xls_ptg.specs.Readings.{Reading}

-- ---- 1C (PtgErr)

abbrev pub named_b_err : ℕ → Result CellErrorType XlsError → Result CellErrorType XlsError
named_b_err code (Ok error) = Ok error
named_b_err code (Err e) = Err (errors.Unrecognized parts.BErr code)

-- the error value of a code, by the table for cells ([MS-XLS] BErr); of none the part is named BErr
abbrev pub err_of : ℕ → Result CellErrorType XlsError
err_of code = named_b_err code (cell_error code)

abbrev pub err_by : Result CellErrorType XlsError → Reading
err_by read = gives (λ error. (ptg.Err error, 1)) read

abbrev pub err_at : List ℕ → Reading
err_at rest = sized 1 rest (err_by (err_of (slice_index rest 0)))

-- ---- the others

-- 1D (PtgBool): every byte but 0 is true
abbrev pub bool_at : List ℕ → Reading
bool_at rest = sized 1 rest (Ok (ptg.Bool (not (slice_index rest 0 == 0)), 1))

-- 1E (PtgInt)
abbrev pub int_at : List ℕ → Reading
int_at rest = sized 2 rest (Ok (ptg.Int (word_at 0 rest), 2))

-- 1F (PtgNum)
abbrev pub num_at : List ℕ → Reading
num_at rest = sized 8 rest (Ok (ptg.Num (le (take 8 rest)), 8))

-- 20 (PtgArray)
abbrev pub array_at : List ℕ → Reading
array_at rest = sized 7 rest (Ok (ptg.Array, 7))
