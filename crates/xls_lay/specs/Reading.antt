-- What is read of the bytes of a stream: the logical list that they carry, or their first fault.
use Rattle.std.specs.Prelude.{◌≡◌, ◌⊎◌, ℕ, List, None, Result, Ok, Err}
use Rattle.xls_stream.specs.Listing.{ListEntry, Carries}
use Rattle.xls_record.specs.declared.error.XlsError.{XlsError}
use Rattle.xls_record.specs.declared.error.XlsError.TheVariants.{Memory}
use Rattle.xls_open.specs.Checking.{FirstChecked}
use Rattle.xls_open.specs.Opening.{default_options}

-- e is the first fault of the bytes, under no forced page and the bound of cells by default; their
-- number has no limit
abbrev pub IsFirst : List ℕ → XlsError → Type 0
IsFirst bytes e = FirstChecked None default_options.max_cells bytes e

-- no place has a fault
abbrev pub IsFaultless : List ℕ → Type 0
IsFaultless bytes = (e : XlsError) → IsFirst bytes e → ⊥

-- the list that faultless bytes carry; or their first fault; or memory ran out, where they have none
abbrev pub ReadsList : List ℕ → Result (List ListEntry) XlsError → Type 0
ReadsList bytes (Ok list) = IsFaultless bytes × Carries bytes list
ReadsList bytes (Err e) = IsFirst bytes e ⊎ ((e ≡ Memory) × IsFaultless bytes)
