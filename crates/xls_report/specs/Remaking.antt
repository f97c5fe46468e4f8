-- What is written of a logical list.
use Rattle.std.specs.Prelude.{◌≡◌, ℕ, ◌<◌, ◌≤◌, ◌^◌, List, length, Result, Ok, Err}
use Rattle.xls_stream.specs.Listing.{ListEntry, Carries}
use Rattle.xls_record.specs.declared.error.XlsError.{XlsError}
use Rattle.xls_record.specs.declared.error.XlsError.TheVariants as errors
use Rattle.xls_meaning.specs.Faults.{FirstFault, IsSound}
use Rattle.xls_open.specs.Opening.{default_rules}
use Rattle.xls_lay.specs.Writing.{canonical_bytes, canonical_size}
use Rattle.xls_lay.specs.declared.error.LayError.TheVariants.{TooLong}
use Rattle.xls_report.specs.Faults.{unwritten_line}

-- its canonical bytes, which have offsets of 32 bits
abbrev pub IsWrittenOf : List ListEntry → List ℕ → Type 0
IsWrittenOf list text = (length (canonical_bytes list) < 2 ^ 32) × (text ≡ canonical_bytes list)

-- how many they are, where they have not
abbrev pub IsUnwrittenOf : List ListEntry → List ℕ → Type 0
IsUnwrittenOf list text =
    (2 ^ 32 ≤ length (canonical_bytes list)) × (text ≡ unwritten_line (TooLong (canonical_size list)))

-- bytes have no fault, and this is the one list that they carry
pub record IsListOf (bytes : List ℕ) (list : List ListEntry) : Type 0 where
  pub sound : IsSound default_rules bytes
  pub carries : Carries bytes list
  pub one : (other : List ListEntry) → Carries bytes other → list ≡ other

-- it is told, or the first fault, or memory ran out
abbrev pub TellsList : List ℕ → Result (List ListEntry) XlsError → Type 0
TellsList bytes (Ok list) = IsListOf bytes list
TellsList bytes (Err errors.Memory) = Unit {0}
TellsList bytes (Err e) = FirstFault default_rules bytes e
