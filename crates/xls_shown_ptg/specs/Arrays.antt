-- The values of a constant array ([MS-XLS] PtgExtraArray, SerAr), which stand in the extra bytes. What stands before
-- BIFF8 is this project's rule.
use Rattle.std.specs.Prelude.{ℕ, zero, suc, ◌+◌, ◌*◌, List, [], ◌∷◌, length, take, drop, slice_index, not, nat_lt, ◌==◌}
use Rattle.std.specs.Prelude.{if◌then◌else◌, Some, None, Result, Ok, Err}
use Rattle.std.specs.Borrow.{Bor}
use Rattle.xls_bytes.specs.Numbers.{le}
use Rattle.xls_record.specs.Version.{is_biff8}
use Rattle.xls_record.specs.declared.version.Biff.{Biff}
use Rattle.xls_ptg.specs.Constants.{err_of}
use Rattle.xls_ptg.specs.Fields.{word_at}
use Rattle.xls_ptg.specs.PtgStr.{no_cch_at}
use Rattle.xls_shown_ptg.specs.Reading.{◌>>=◌, gives, lifted}
use Rattle.xls_shown_ptg.specs.declared.arrays.ArraySize.{ArraySize}
use Rattle.xls_shown_ptg.specs.declared.arrays.SerAr.{SerAr}
use Rattle.xls_shown_ptg.specs.declared.arrays.SerAr.TheVariants as sers
use Rattle.xls_shown_ptg.specs.declared.fault.Fault.{Fault}
use Rattle.xls_shown_ptg.specs.declared.fault.Fault.TheVariants as faults

-- what is read where so many bytes are left
abbrev pub left_of : {X : Type 0} → ℕ → List ℕ → Result X Fault → Result X Fault
left_of size bytes read = if nat_lt (length bytes) size then Err (faults.ExtraArray size (length bytes)) else read

-- something, and the bytes behind it
abbrev pub Left : Type 0 → Type 0
Left X = Result (X × List ℕ) Fault

-- ---- a value

-- the eight bytes of a value
abbrev pub eight : List ℕ → Left (List ℕ)
eight rest = left_of 8 rest (Ok (take 8 rest, drop 8 rest))

-- 00 (SerNil), 01 (SerNum), 04 (SerBool: every byte but 0 is true), 10 (SerErr)
abbrev pub nil_at : List ℕ → Left (SerAr (List ℕ))
nil_at rest = gives (λ x. (sers.Nil, x.1)) (eight rest)

abbrev pub num_at : List ℕ → Left (SerAr (List ℕ))
num_at rest = gives (λ x. (sers.Num (le (take 8 x.0)), x.1)) (eight rest)

abbrev pub bool_at : List ℕ → Left (SerAr (List ℕ))
bool_at rest = gives (λ x. (sers.Bool (not (slice_index x.0 0 == 0)), x.1)) (eight rest)

abbrev pub err_at : List ℕ → Left (SerAr (List ℕ))
err_at rest = eight rest >>= λ x. lifted (λ error. (sers.Err error, x.1)) (err_of (slice_index x.0 0))

-- 02 (SerStr): a count and a string without a count
abbrev pub later_str : ℕ → List ℕ → Left (SerAr (List ℕ))
later_str cch bytes =
    lifted (λ x. (sers.Str x.1 cch (Some x.0), drop (1 + length x.1) bytes)) (no_cch_at cch bytes)

-- before BIFF8 a count byte and so many bytes in the page
abbrev pub early_str : ℕ → List ℕ → Left (SerAr (List ℕ))
early_str cch rest =
    left_of (1 + cch) rest (Ok (sers.Str (take cch (drop 1 rest)) cch None, drop (1 + cch) rest))

abbrev pub ser_str_at : Biff → List ℕ → Left (SerAr (List ℕ))
ser_str_at biff rest =
    if is_biff8 biff then left_of 3 rest (later_str (word_at 0 rest) (drop 2 rest))
    else left_of 1 rest (early_str (slice_index rest 0) rest)

-- by its kind
abbrev pub ser_by : Biff → ℕ → List ℕ → Left (SerAr (List ℕ))
ser_by biff kind rest =
    if kind == 0x00 then nil_at rest
    else if kind == 0x01 then num_at rest
    else if kind == 0x02 then ser_str_at biff rest
    else if kind == 0x04 then bool_at rest
    else if kind == 0x10 then err_at rest
    else Err (faults.SerAr kind)

abbrev pub ser_at : Biff → List ℕ → Left (SerAr (List ℕ))
ser_at biff bytes = left_of 1 bytes (ser_by biff (slice_index bytes 0) (drop 1 bytes))

-- so many values
abbrev pub sers_at : Biff → ℕ → List ℕ → Left (List (SerAr (List ℕ)))
sers_at biff zero bytes = Ok ([], bytes)
sers_at biff (suc n) bytes = do
  first ← ser_at biff bytes
  others ← sers_at biff n first.1
  Ok (first.0 ∷ others.0, others.1)

-- ---- the array

-- columns and rows, each less one; before BIFF8 as they are, and 0 columns are 256
abbrev pub size_by : Biff → ℕ → ℕ → ArraySize
size_by biff columns rows =
    if is_biff8 biff then record { columns = columns + 1; rows = rows + 1 }
    else record { columns = if columns == 0 then 256 else columns; rows = rows }

abbrev pub size_at : Biff → List ℕ → Left ArraySize
size_at biff extra = left_of 3 extra (Ok (size_by biff (slice_index extra 0) (word_at 1 extra), drop 3 extra))

-- a constant array: how many columns it has, and its values, row by row
pub record ConstantArray : Type 0 where
  pub columns : ℕ
  pub values : List (SerAr (List ℕ))

abbrev pub array_at : Biff → List ℕ → Left ConstantArray
array_at biff extra = do
  head ← size_at biff extra
  body ← sers_at biff (head.0.columns * head.0.rows) head.1
  Ok (record { columns = head.0.columns; values = body.0 }, body.1)

-- ---- what code holds, as definitions have it

abbrev pub ser_of : SerAr (Bor (List ℕ)) → SerAr (List ℕ)
ser_of sers.Nil = sers.Nil
ser_of (sers.Num bits) = sers.Num bits
ser_of (sers.Str units cch high) = sers.Str units.now cch high
ser_of (sers.Bool truth) = sers.Bool truth
ser_of (sers.Err error) = sers.Err error

abbrev pub as_ser : SerAr (Bor (List ℕ)) × Bor (List ℕ) → SerAr (List ℕ) × List ℕ
as_ser x = (ser_of x.0, x.1.now)

abbrev pub as_size : ArraySize × Bor (List ℕ) → ArraySize × List ℕ
as_size x = (x.0, x.1.now)
