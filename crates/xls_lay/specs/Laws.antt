-- Laws over canonical bytes.
use Rattle.std.specs.Prelude.{◌≡◌, ◌↔◌, ℕ, ◌<◌, ◌≤◌, ◌^◌, List, length, Some, Result}
use Rattle.xls_stream.specs.Walks.{IsBytes}
use Rattle.xls_stream.specs.Listing.{ListEntry, Carries}
use Rattle.xls_record.specs.declared.error.XlsError.{XlsError}
use Rattle.xls_meaning.specs.Faults.{IsFull}
use Rattle.xls_record.specs.SourceState.{SourceState}
use Rattle.xls_open.specs.declared.options.XlsOptions.{XlsOptions}
use Rattle.xls_open.specs.Workbook.{Workbook, rules_of}
use Rattle.xls_open.specs.Opening.{IsOpened, Opens}
use Rattle.xls_open.specs.Laws.{OpensAs}
use Rattle.xls_layouts.specs.Canonical.{Fits}
use Rattle.xls_lay.specs.Writing.{canonical_bytes}

-- canonical bytes with offsets of 32 bits carry their list
abbrev pub CanonicalCarries : Type 0
CanonicalCarries = (list : List ListEntry) → Fits list → length (canonical_bytes list) < 2 ^ 32
    → Carries (canonical_bytes list) list

-- two lists are equal exactly where their canonical bytes are
abbrev pub CanonicalEquality : Type 0
CanonicalEquality = (list other : List ListEntry) → Fits list → Fits other
    → length (canonical_bytes list) < 2 ^ 32 → length (canonical_bytes other) < 2 ^ 32
    → (list ≡ other) ↔ (canonical_bytes list ≡ canonical_bytes other)

-- a list that canonical bytes carry has those bytes: to write them once more changes nothing
abbrev pub WrittenAgain : Type 0
WrittenAgain = (list other : List ListEntry) → Fits list → length (canonical_bytes list) < 2 ^ 32
    → Carries (canonical_bytes list) other → canonical_bytes other ≡ canonical_bytes list

-- the canonical bytes of a full list open to its reading: what opening answers over a source that has them left
abbrev pub CanonicalOpens : Type 0
CanonicalOpens = (options : XlsOptions) (list : List ListEntry) → Fits list → IsFull (rules_of options) list
    → length (canonical_bytes list) < 2 ^ 32 → length (canonical_bytes list) ≤ options.max_bytes
    → (was now : SourceState) → was.left ≡ Some (canonical_bytes list) → (result : Result Workbook XlsError)
    → Opens options was now result → OpensAs options list was now result

-- a workbook that bytes open to is opened from the canonical bytes of their list too
abbrev pub OpensAgain : Type 0
OpensAgain = (options : XlsOptions) (book : Workbook) (bytes : List ℕ) (list : List ListEntry)
    → IsBytes bytes → Carries bytes list → Fits list
    → length (canonical_bytes list) < 2 ^ 32 → length (canonical_bytes list) ≤ options.max_bytes
    → IsOpened options book bytes → IsOpened options book (canonical_bytes list)
