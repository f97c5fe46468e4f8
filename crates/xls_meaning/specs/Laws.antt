-- Laws over streams and their faults, and over readings.
use Rattle.std.specs.Prelude.{◌≡◌, ◌↔◌, ℕ, ◌≤◌, List, Some, length, slice_get}
use Rattle.xls_stream.specs.Walks.{IsBytes}
use Rattle.xls_stream.specs.Listing.{ListEntry, Carries}
use Rattle.xls_data.specs.Sheets.{SheetContent}
use Rattle.xls_record.specs.declared.error.XlsError.{XlsError}
use Rattle.xls_meaning.specs.Reading.{SheetView, BookView, IsReading, displayed_of}
use Rattle.xls_meaning.specs.Faults.{FirstFault, IsSound, IsFull}
use Rattle.xls_meaning.specs.Rules.{Rules}

-- a stream has at most one first fault
abbrev pub OneFirstFault : Type 0
OneFirstFault = (rules : Rules) (bytes : List ℕ) → IsBytes bytes → (e f : XlsError)
    → FirstFault rules bytes e → FirstFault rules bytes f → e ≡ f

-- it has none exactly where it is within the limit and carries a full list
abbrev pub SoundWhereFull : Type 0
SoundWhereFull =
    (rules : Rules) (bytes : List ℕ) → IsBytes bytes
    → IsSound rules bytes
    ↔ ((length bytes ≤ rules.max_bytes) × (entries : List ListEntry) × Carries bytes entries
    × IsFull rules entries)

-- in a reading, the merged regions at an index are those of the last sheet of its name
abbrev pub RegionsByName : Type 0
RegionsByName =
    (rules : Rules) (entries : List ListEntry) (book : BookView) → IsReading rules entries book
    → (n : ℕ) (sheet : SheetContent) (view : SheetView)
    → slice_get book.sheets n ≡ Some sheet → slice_get book.contents n ≡ Some view
    → (last : SheetView) × (displayed_of book sheet.name ≡ Some last) × (view.merges ≡ last.merges)
