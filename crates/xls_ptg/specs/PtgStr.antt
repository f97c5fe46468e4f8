-- 17 (PtgStr, [MS-XLS] 2.5.198.89). What stands before BIFF8 is this project's rule.
use Rattle.std.specs.Prelude.{ℕ, ◌+◌, List, length, take, drop, slice_index, Bool, if◌then◌else◌, Some, None, Result, Ok}
use Rattle.xls_record.specs.Reading.{gives}
use Rattle.xls_stream.specs.StringTable.{is_wide}
use Rattle.xls_stream.specs.declared.part.Part.TheVariants as parts
use Rattle.xls_record.specs.Version.{is_biff8}
use Rattle.xls_strings.specs.Uncounted.{uncounted_size}
use Rattle.xls_record.specs.declared.error.XlsError.{XlsError}
use Rattle.xls_record.specs.declared.version.Biff.{Biff}
use Rattle.xls_ptg.specs.declared.tokens.Ptg.TheVariants as ptg
use Rattle.xls_ptg.specs.Fields.{sized_as}
use Rattle.xls_ptg.specs.Readings.{Reading}

-- what stands after the flags byte of a string of this size
abbrev pub units_after : List ℕ → Result ℕ XlsError → Result (Bool × List ℕ) XlsError
units_after bytes size = gives (λ n. (is_wide (slice_index bytes 0), drop 1 (take n bytes))) size

-- [MS-XLS] XLUnicodeStringNoCch of so many units: the width and the bytes of the units
abbrev pub no_cch_at : ℕ → List ℕ → Result (Bool × List ℕ) XlsError
no_cch_at count bytes = units_after bytes (uncounted_size count bytes)

abbrev pub later_str : ℕ → Result (Bool × List ℕ) XlsError → Reading
later_str cch units = gives (λ x. (ptg.Str x.1 cch (Some x.0), 2 + length x.1)) units

abbrev pub early_str_at : ℕ → List ℕ → Reading
early_str_at cch rest =
    sized_as parts.PtgStr (1 + cch) rest
    (Ok (ptg.Str (take cch (drop 1 rest)) cch None, 1 + cch))

-- a count byte and a string without a count, or before BIFF8 so many bytes in the page
abbrev pub str_token_at : Biff → List ℕ → Reading
str_token_at biff rest =
    sized_as parts.PtgStr 1 rest
    (if is_biff8 biff
    then later_str (slice_index rest 0) (no_cch_at (slice_index rest 0) (drop 1 rest))
    else early_str_at (slice_index rest 0) rest)
