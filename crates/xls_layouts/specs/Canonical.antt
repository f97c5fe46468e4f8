-- The canonical layout of a logical list.
use Rattle.std.specs.Prelude.{◌≡◌, ℕ, suc, ◌+◌, ◌<◌, ◌^◌, List, [], ◌∷◌, ◌++◌, length, Bool, true, false, nat_lt, not, ◌&&◌, Some, None}
use Rattle.std.specs.List.{AllByRecursion}
use Rattle.xls_stream.specs.Stream.{Group, IsBody}
use Rattle.xls_stream.specs.Substreams.{Items, none, plain, is_among, sheet_types}
use Rattle.xls_stream.specs.StringTable.{Mark}
use Rattle.xls_stream.specs.Listing.{Kept, ListEntry, plain_entry, table_entry, sheet_entry}
use Rattle.xls_stream.specs.declared.types.TheConstants as types
use Rattle.xls_layouts.specs.LaidStrings.{le32, Step, put, cut, LaidString, marks_of_string}
use Rattle.xls_layouts.specs.Layout.{LaidPart, LaidItem, a_plain, a_sheet, a_table, Layout, IsPlainType}

-- ---- the cuts of a string table

-- the data of a record has at most so many bytes ([MS-XLS] 2.1.4)
abbrev pub record_limit : ℕ
record_limit = 0x2020

-- so many bytes more would take the data of a record, of which so many are used, past the limit
abbrev pub passes : ℕ → ℕ → Bool
passes used more = nat_lt record_limit (used + more)

-- the bytes that are used after the last mark
abbrev pub fill_from : ℕ → List Mark → ℕ
fill_from used [] = used
fill_from used (None ∷ ms) = fill_from 0 ms
fill_from used (Some b ∷ ms) = fill_from (suc used) ms

abbrev pub unit_size : Bool → ℕ
unit_size true = 2
unit_size false = 1

abbrev pub cut_if : Bool → Bool → List Step → List Step
cut_if true wide steps = cut wide ∷ steps
cut_if false wide steps = steps

-- what is used after a head or unit of so many bytes, in a new piece that begins with so many, or in
-- the same one
abbrev pub used_after : Bool → ℕ → ℕ → ℕ → ℕ
used_after true prefix used more = prefix + more
used_after false prefix used more = used + more

-- a cut stands exactly before a unit that would pass; the flags byte of its piece counts
abbrev pub canonical_steps : Bool → ℕ → List ℕ → List Step
canonical_steps wide used [] = []
canonical_steps wide used (u ∷ us) =
    cut_if (passes used (unit_size wide)) wide
    (put u ∷ canonical_steps wide (used_after (passes used (unit_size wide)) 1 used (unit_size wide)) us)

-- all units are below 256
abbrev pub is_narrow : List ℕ → Bool
is_narrow [] = true
is_narrow (u ∷ us) = nat_lt u 256 && is_narrow us

-- narrow exactly where all units are below 256; a cut stands before a head that would pass
abbrev pub canonical_string : ℕ → List ℕ → LaidString
canonical_string used us = record {
  begins_piece = passes used 3;
  wide = not (is_narrow us);
  runs = None;
  extension = None;
  steps = canonical_steps (not (is_narrow us)) (used_after (passes used 3) 0 used 3) us;
  following = [];
}

abbrev pub canonical_strings : ℕ → List (List ℕ) → List LaidString
canonical_strings used [] = []
canonical_strings used (us ∷ strings) =
    canonical_string used us ∷ canonical_strings (fill_from used (marks_of_string (canonical_string used us))) strings

-- ---- a whole list

-- a record without Continues
abbrev pub bare_group : ℕ → List ℕ → Group
bare_group typ body = record { typ = typ; body = body; tail = [] }

abbrev pub canonical_records : List Kept → Items
canonical_records [] = none
canonical_records (k ∷ kept) = plain (bare_group k.typ k.body) (canonical_records kept)

-- the BOF of a sheet ([MS-XLS] 2.4.21): BIFF8, a worksheet
abbrev pub sheet_bof : Group
sheet_bof = bare_group types.BOF (0x00 ∷ 0x06 ∷ 0x10 ∷ 0x00 ∷ [])

abbrev pub canonical_part : List Kept → LaidPart
canonical_part kept = record { prefix = []; bof = sheet_bof; items = canonical_records kept }

-- sheets in order
abbrev pub canonical_parts : List ListEntry → List LaidPart
canonical_parts [] = []
canonical_parts (plain_entry typ body ∷ list) = canonical_parts list
canonical_parts (table_entry strings ∷ list) = canonical_parts list
canonical_parts (sheet_entry state kind name kept ∷ list) = canonical_part kept ∷ canonical_parts list

-- the number of strings, twice
abbrev pub counts_of : List (List ℕ) → List ℕ
counts_of strings = le32 (length strings) ++ le32 (length strings)

-- the items of a list, where so many sheets stand before it
abbrev pub canonical_items : ℕ → List ListEntry → List LaidItem
canonical_items n [] = []
canonical_items n (plain_entry typ body ∷ list) = a_plain (bare_group typ body) ∷ canonical_items n list
canonical_items n (table_entry strings ∷ list) =
    a_table (counts_of strings) (canonical_strings 8 strings) ∷ canonical_items n list
canonical_items n (sheet_entry state kind name kept ∷ list) =
    a_sheet state kind name [] n ∷ canonical_items (suc n) list

abbrev pub canonical : List ListEntry → Layout
canonical list = record { globals = canonical_items 0 list; parts = canonical_parts list }

-- ---- lists that fit

abbrev pub IsByte : ℕ → Type 0
IsByte b = b < 256

abbrev pub AreBytes : List ℕ → Type 0
AreBytes bytes = AllByRecursion IsByte bytes

abbrev pub IsUnit : ℕ → Type 0
IsUnit u = u < 2 ^ 16

-- a body of bytes that has a length of 16 bits
abbrev pub FitsBody : List ℕ → Type 0
FitsBody body = IsBody body × AreBytes body

-- a record of one of a sheet's types
pub record FitsKept (k : Kept) : Type 0 where
  pub is_kept : is_among k.typ sheet_types ≡ true
  pub fits : FitsBody k.body

-- at most 65,535 units
pub record FitsString (units : List ℕ) : Type 0 where
  pub count : length units < 2 ^ 16
  pub are_units : AllByRecursion IsUnit units

pub record FitsSheet (state kind : ℕ) (name : List ℕ) (kept : List Kept) : Type 0 where
  pub state_is : IsByte state
  pub kind_is : IsByte kind
  pub name_fits : 6 + length name < 2 ^ 16
  pub name_is : AreBytes name
  pub kept_fit : AllByRecursion FitsKept kept

abbrev pub FitsEntry : ListEntry → Type 0
FitsEntry (plain_entry typ body) = IsPlainType typ × FitsBody body
FitsEntry (table_entry strings) = AllByRecursion FitsString strings
FitsEntry (sheet_entry state kind name kept) = FitsSheet state kind name kept

-- every body that its records need has a length of 16 bits, and so has every list of units; bytes are
-- bytes, and units have 16 bits
abbrev pub Fits : List ListEntry → Type 0
Fits list = AllByRecursion FitsEntry list
