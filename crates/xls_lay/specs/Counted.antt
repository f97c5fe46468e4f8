-- What a list that is put together meets besides: its tables can be counted in their records.
use Rattle.std.specs.Prelude.{◌<◌, ◌^◌, List, length}
use Rattle.std.specs.List.{AllByRecursion}
use Rattle.xls_stream.specs.Listing.{ListEntry, plain_entry, table_entry, sheet_entry}
use Rattle.xls_layouts.specs.Canonical.{FitsEntry}

-- an entry that fits; the number of strings of a table has 32 bits
abbrev pub CountedEntry : ListEntry → Type 0
CountedEntry (plain_entry typ body) = FitsEntry (plain_entry typ body)
CountedEntry (table_entry strings) = (length strings < 2 ^ 32) × FitsEntry (table_entry strings)
CountedEntry (sheet_entry state kind name kept) = FitsEntry (sheet_entry state kind name kept)

abbrev pub Counted : List ListEntry → Type 0
Counted list = AllByRecursion CountedEntry list
