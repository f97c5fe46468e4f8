-- A logical list that is put together from its start: what its last entry is, and how that grows.
use Rattle.std.specs.Prelude.{◌≡◌, ℕ, List, [], ◌∷◌, ◌++◌, length}
use Rattle.xls_stream.specs.Listing.{Kept, ListEntry, plain_entry, table_entry, sheet_entry}
pub use Rattle.xls_stream.specs.Listing.{is_among, sheet_types}
pub use Rattle.xls_layouts.specs.Canonical.{Fits}

-- the last entry is a sheet
pub record EndsInSheet (list : List ListEntry) : Type 0 where
  pub prefix : List ListEntry
  pub state : ℕ
  pub kind : ℕ
  pub name : List ℕ
  pub kept : List Kept
  pub whole : list ≡ prefix ++ sheet_entry state kind name kept ∷ []

-- the last entry is a string table
pub record EndsInTable (list : List ListEntry) : Type 0 where
  pub prefix : List ListEntry
  pub strings : List (List ℕ)
  pub whole : list ≡ prefix ++ table_entry strings ∷ []

-- the records of a sheet, or the strings of a table
abbrev pub count_in : ListEntry → ℕ
count_in (plain_entry typ body) = 0
count_in (table_entry strings) = length strings
count_in (sheet_entry state kind name kept) = length kept

-- those of the last entry
abbrev pub last_count : List ListEntry → ℕ
last_count [] = 0
last_count (e ∷ []) = count_in e
last_count (e ∷ f ∷ list) = last_count (f ∷ list)

-- the last entry is a sheet, and has one record more after those that it had
pub record AddsKept (old new : List ListEntry) (typ : ℕ) (body : List ℕ) : Type 0 where
  pub prefix : List ListEntry
  pub state : ℕ
  pub kind : ℕ
  pub name : List ℕ
  pub kept : List Kept
  pub before : old ≡ prefix ++ sheet_entry state kind name kept ∷ []
  pub after : new ≡ prefix ++ sheet_entry state kind name (kept ++ record { typ = typ; body = body } ∷ []) ∷ []

-- the last entry is a string table, and has one string more after those that it had
pub record AddsString (old new : List ListEntry) (units : List ℕ) : Type 0 where
  pub prefix : List ListEntry
  pub strings : List (List ℕ)
  pub before : old ≡ prefix ++ table_entry strings ∷ []
  pub after : new ≡ prefix ++ table_entry (strings ++ units ∷ []) ∷ []
