-- What the readers of a string table say ([MS-XLS] SST 2.4.265).
use Rattle.std.specs.Prelude.{◌≡◌, ◌≢◌, ℕ, List, [], ◌++◌, length, map, drop, Option, Some, None, Result, Ok, Err}
use Rattle.std.specs.Char.Utf16.{utf16_lossy_chars}
use Rattle.std.specs.Global.{Vec}
use Rattle.xls_stream.specs.StringTable.{Mark, marked, Missing, short_head, no_units, no_tail, Head as Outline, next_at, Table, TableFault}
use Rattle.xls_stream.specs.declared.part.Part.TheVariants.{RichString, Dbcs, Sst}
use Rattle.xls_record.specs.declared.error.XlsError.{XlsError}
use Rattle.xls_record.specs.declared.error.XlsError.TheVariants as errors
use Rattle.xls_strings.specs.declared.sst.Head.{Head}
use Rattle.xls_record.specs.Reading.{◌>>◌, at_least, Fails}

-- ---- one string

-- the error that names what is missing
abbrev pub error_of : Missing → XlsError
error_of (short_head expected found) = errors.Len expected found RichString
error_of no_units = errors.EoStream Dbcs
error_of no_tail = errors.ContinueRecordTooShort

abbrev pub as_error : {X : Type 0} → Result X Missing → Result X XlsError
as_error (Ok x) = Ok x
as_error (Err m) = Err (error_of m)

abbrev pub outline_of : Head → Outline
outline_of h = record { len = h.len; count = h.count; wide = h.is_wide; following = h.tail }

abbrev pub GivesHead : Result Head XlsError → Result Outline Missing → Type 0
GivesHead (Ok h) read = read ≡ Ok (outline_of h)
GivesHead (Err e) read = as_error read ≡ Err e

-- units were added, and what is left is what stands after them
abbrev pub AddsAt : List ℕ → Result (Unit {0}) XlsError → List ℕ → List Mark → Result (List ℕ × List Mark) Missing → Type 0
AddsAt old (Ok u) new after read = (units : List ℕ) × (new ≡ old ++ units) × (read ≡ Ok (units, after))
AddsAt old (Err e) new after read = Fails e (as_error read)

-- a string was passed
abbrev pub SkipsAt : Result (Unit {0}) XlsError → List Mark → Result (List ℕ × List Mark) Missing → Type 0
SkipsAt (Ok u) after read = (units : List ℕ) × (read ≡ Ok (units, after))
SkipsAt (Err e) after read = as_error read ≡ Err e

-- a step over a table: the next string, None at the end, and after a refusal all is left as it was
abbrev pub NextUnits : List Mark → Result (Option (Vec ℕ)) XlsError → List Mark → Type 0
NextUnits before (Ok None) after = (before ≡ []) × (after ≡ [])
NextUnits before (Ok (Some v)) after = (before ≢ []) × (next_at before ≡ Ok (v.items, after))
NextUnits before (Err e) after = (after ≡ before) × (before ≢ []) × Fails e (as_error (next_at before))

-- ---- a table

-- the first fault of a table
abbrev pub FailsTable : List Mark → XlsError → Type 0
FailsTable ms e = (m : Missing) × (e ≡ error_of m) × TableFault ms m

-- the texts of the strings, or the first fault, unless memory ran out
abbrev pub ReadsTable : List Mark → Result (List (List ℕ)) XlsError → Type 0
ReadsTable ms (Ok texts) = (strings : List (List ℕ)) × Table ms strings × (texts ≡ map utf16_lossy_chars strings)
ReadsTable ms (Err errors.Memory) = Unit {0}
ReadsTable ms (Err e) = FailsTable ms e

-- the number of the strings, or the first fault
abbrev pub CountsTable : List Mark → Result ℕ XlsError → Type 0
CountsTable ms (Ok n) = (strings : List (List ℕ)) × Table ms strings × (n ≡ length strings)
CountsTable ms (Err e) = FailsTable ms e

-- the marked bytes of an SST record: those after the first 8, which hold two numbers
abbrev pub sst_marks : List ℕ → List (List ℕ) → Result (List Mark) XlsError
sst_marks body tail = do
  at_least 8 Sst body
  Ok (marked (drop 8 body) tail)

-- a fact of the marked bytes, or their fault
abbrev pub InTable : {X : Type 0} → (List Mark → Result X XlsError → Type 0) → Result (List Mark) XlsError → Result X XlsError → Type 0
InTable fact (Ok ms) result = fact ms result
InTable fact (Err e) result = result ≡ Err e
