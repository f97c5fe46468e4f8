-- BOF ([MS-XLS] 2.4.21); the versions before BIFF8 are this project's rule.
use Rattle.std.specs.Prelude.{ℕ, List, ◌||◌, ◌==◌, if◌then◌else◌, nat_lt, length, take, drop, Option, Some, None, Result, Ok}
use Rattle.xls_bytes.specs.Numbers.{le}
use Rattle.xls_stream.specs.declared.part.Part.TheVariants as parts
use Rattle.xls_record.specs.declared.version.Biff.{Biff}
use Rattle.xls_record.specs.declared.version.Biff.TheVariants.{Biff2, Biff3, Biff4, Biff5, Biff8}
use Rattle.xls_record.specs.declared.error.XlsError.{XlsError}
use Rattle.xls_record.specs.Reading.{◌>>◌, at_least}
use Rattle.xls_biff.specs.declared.records.bof.Bof.{Bof}

-- the second 16-bit number, where it is there
abbrev pub second_number : List ℕ → Option ℕ
second_number body = if nat_lt (length body) 4 then None else Some (le (take 2 (drop 2 body)))

-- 0 means BIFF8, unless the second number is 1000
abbrev pub biff_of_zero : Option ℕ → Biff
biff_of_zero None = Biff8
biff_of_zero (Some n) = if n == 0x1000 then Biff5 else Biff8

-- all else is BIFF8, 0600 among it
abbrev pub biff_of : ℕ → Option ℕ → Biff
biff_of n second =
    if n == 0x0200 || n == 0x0002 || n == 0x0007 then Biff2
    else if n == 0x0300 then Biff3
    else if n == 0x0400 then Biff4
    else if n == 0x0500 then Biff5
    else if n == 0x0000 then biff_of_zero second
    else Biff8

abbrev pub bof_at : List ℕ → Result Bof XlsError
bof_at body = do
  at_least 2 parts.Bof body
  Ok (record { biff = biff_of (le (take 2 body)) (second_number body) })
