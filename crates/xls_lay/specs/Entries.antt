-- For the proofs: what an entry that is kept in memory is in the list.
use Rattle.std.specs.Prelude.{◌≡◌, ℕ, List, [], ◌∷◌, ◌++◌, map, Bool, true, false}
use Rattle.xls_stream.specs.Listing.{plain_entry, table_entry, sheet_entry}
use Rattle.xls_stream.specs.Listing as listing
use Rattle.xls_lay.specs.declared.entry.Entry.{Entry}
use Rattle.xls_lay.specs.declared.entry.Entry.TheVariants.{Plain, Table, Sheet}

abbrev pub entry_in : Entry → listing.ListEntry
entry_in (Plain typ body) = plain_entry typ body.items
entry_in (Table strings) = table_entry strings
entry_in (Sheet state kind name kept) = sheet_entry state kind name.items kept

abbrev pub entries_in : List Entry → List listing.ListEntry
entries_in entries = map entry_in entries

-- a sheet has one record more after those that it had; another entry stays
abbrev pub KeptPushed : Entry → ℕ → List ℕ → Entry → Type 0
KeptPushed (Sheet state kind name kept) typ body new =
    new ≡ Sheet state kind name (kept ++ record { typ = typ; body = body } ∷ [])
KeptPushed old typ body new = new ≡ old

-- a table has one string more
abbrev pub StringPushed : Entry → List ℕ → Entry → Type 0
StringPushed (Table strings) units new = new ≡ Table (strings ++ units ∷ [])
StringPushed old units new = new ≡ old

abbrev pub is_sheet : listing.ListEntry → Bool
is_sheet (plain_entry typ body) = false
is_sheet (table_entry strings) = false
is_sheet (sheet_entry state kind name kept) = true

abbrev pub is_table : listing.ListEntry → Bool
is_table (plain_entry typ body) = false
is_table (table_entry strings) = true
is_table (sheet_entry state kind name kept) = false
