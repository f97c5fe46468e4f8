-- Layouts of a logical list: the streams of whole records in which it may be written. A layout is a
-- tree that holds its list (`list_of`), with a printer (`lay`) and a fact that says which are valid
-- (`IsLayout`).
use Rattle.std.specs.Prelude.{◌≡◌, ◌≢◌, ℕ, ◌+◌, ◌<◌, ◌^◌, List, [], ◌∷◌, ◌++◌, length, take, map, slice_index_or, true, false}
use Rattle.std.specs.List.{flat_map, AllByRecursion}
use Rattle.xls_stream.specs.Stream.{Group, group_bytes, IsGroup, IsBody}
use Rattle.xls_stream.specs.Walks.{IsBytes}
use Rattle.xls_stream.specs.Substreams.{IsBof, IsPlain, Items, none, AreItems, groups_of, outer_of, is_sheet_type, kept_groups, is_among}
use Rattle.xls_stream.specs.Listing.{Kept, kept_of, ListEntry, plain_entry, table_entry, sheet_entry, globals_types, is_globals_type, is_plain_type}
use Rattle.xls_stream.specs.declared.types.TheConstants as types
use Rattle.xls_layouts.specs.LaidStrings.{le32, LaidString, marks_of_strings, lists_of, table_group, IsLaidTable}

-- the EOF record that ends the globals and each part
abbrev pub eof_group : Group
eof_group = record { typ = types.EOF; body = []; tail = [] }

-- ---- a sheet part

-- loose records; a BOF record; and kept records, loose ones and nested substreams in any order. Each
-- may have a tail of Continue records
pub record LaidPart : Type 0 where
  pub prefix : List Group
  pub bof : Group
  pub items : Items

-- its groups before its EOF
abbrev pub open_part : LaidPart → List Group
open_part p = p.prefix ++ p.bof ∷ groups_of p.items

abbrev pub groups_of_part : LaidPart → List Group
groups_of_part p = open_part p ++ eof_group ∷ []

abbrev pub bytes_of_part : LaidPart → List ℕ
bytes_of_part p = flat_map group_bytes (groups_of_part p)

-- the kept records of its sheet
abbrev pub kept_of_part : LaidPart → List Kept
kept_of_part p = kept_of (kept_groups (outer_of p.items))

-- ---- the globals

-- a loose record; a plain record of the list; a sheet, by bytes 4 and 5 and the bytes from 6 of its
-- BoundSheet8, its tail, and the index of its part; a string table
pub data LaidItem : Type 0 where
  a_loose : (g : Group) → LaidItem
  a_plain : (g : Group) → LaidItem
  a_sheet : (state kind : ℕ) (name : List ℕ) (tail : List (List ℕ)) (part : ℕ) → LaidItem
  a_table : (first : List ℕ) (strings : List LaidString) → LaidItem

abbrev pub sheet_body : ℕ → ℕ → ℕ → List ℕ → List ℕ
sheet_body offset state kind name = le32 offset ++ state ∷ kind ∷ name

-- the group of an item, where each part begins at its offset
abbrev pub group_of_item : (ℕ → ℕ) → LaidItem → Group
group_of_item offset (a_loose g) = g
group_of_item offset (a_plain g) = g
group_of_item offset (a_sheet state kind name tail part) =
    record { typ = types.BOUND_SHEET_8; body = sheet_body (offset part) state kind name; tail = tail }
group_of_item offset (a_table first strings) = table_group first (marks_of_strings strings)

-- ---- a layout

-- the items of the globals, and the parts in the order in which they stand after the globals
pub record Layout : Type 0 where
  pub globals : List LaidItem
  pub parts : List LaidPart

abbrev pub bytes_of_globals : (ℕ → ℕ) → List LaidItem → List ℕ
bytes_of_globals offset items = flat_map group_bytes (map (group_of_item offset) items ++ eof_group ∷ [])

-- where the part of an index begins: after the globals, whose length no offset changes, and the parts
-- before it
abbrev pub offset_in : Layout → ℕ → ℕ
offset_in d part = length (bytes_of_globals (λ k. 0) d.globals) + length (flat_map bytes_of_part (take part d.parts))

-- the globals and then the parts, each offset filled in
abbrev pub lay : Layout → List ℕ
lay d = bytes_of_globals (offset_in d) d.globals ++ flat_map bytes_of_part d.parts

-- ---- its list

abbrev pub no_part : LaidPart
no_part = record { prefix = []; bof = eof_group; items = none }

abbrev pub part_at : List LaidPart → ℕ → LaidPart
part_at parts k = slice_index_or parts k no_part

abbrev pub entries_of_item : List LaidPart → LaidItem → List ListEntry
entries_of_item parts (a_loose g) = []
entries_of_item parts (a_plain g) = plain_entry g.typ g.body ∷ []
entries_of_item parts (a_sheet state kind name tail part) =
    sheet_entry state kind name (kept_of_part (part_at parts part)) ∷ []
entries_of_item parts (a_table first strings) = table_entry (lists_of strings) ∷ []

-- the logical list that is laid out
abbrev pub list_of : Layout → List ListEntry
list_of d = flat_map (entries_of_item d.parts) d.globals

-- ---- valid layouts

-- a type that is read in the globals, but neither SST nor BoundSheet8
abbrev pub IsPlainType : ℕ → Type 0
IsPlainType typ = (is_among typ globals_types ≡ true) × (is_plain_type typ ≡ true)

-- a record that is no Continue, and bodies that have a length of 16 bits
pub record IsLaidGroup (g : Group) : Type 0 where
  pub fits : IsGroup g
  pub no_continue : g.typ ≢ types.CONTINUE

-- in the globals: of a type that isn't read there, and no EOF
pub record IsLooseItem (g : Group) : Type 0 where
  pub laid : IsLaidGroup g
  pub not_read : is_globals_type g ≡ false
  pub no_eof : g.typ ≢ types.EOF

pub record IsPlainItem (g : Group) : Type 0 where
  pub laid : IsLaidGroup g
  pub is_plain : IsPlainType g.typ

-- a body that has a length of 16 bits, and a part whose offset has 32 bits
pub record IsSheetItem (d : Layout) (name : List ℕ) (tail : List (List ℕ)) (part : ℕ) : Type 0 where
  pub name_fits : 6 + length name < 2 ^ 16
  pub tail_fits : AllByRecursion IsBody tail
  pub has_part : part < length d.parts
  pub offset_fits : offset_in d part < 2 ^ 32

abbrev pub IsLaidItem : Layout → LaidItem → Type 0
IsLaidItem d (a_loose g) = IsLooseItem g
IsLaidItem d (a_plain g) = IsPlainItem g
IsLaidItem d (a_sheet state kind name tail part) = IsSheetItem d name tail part
IsLaidItem d (a_table first strings) = IsLaidTable first strings

-- in a sheet part: neither BOF nor EOF, and of a type that isn't one of a sheet's records
abbrev pub IsLooseGroup : Group → Type 0
IsLooseGroup g = IsPlain g × (is_sheet_type g ≡ false)

pub record IsLaidPart (p : LaidPart) : Type 0 where
  pub groups : AllByRecursion IsLaidGroup (open_part p)
  pub prefix : AllByRecursion IsLooseGroup p.prefix
  pub is_bof : IsBof p.bof
  pub items : AreItems p.items

-- valid items and parts; every number is a byte
pub record IsLayout (d : Layout) : Type 0 where
  pub globals : AllByRecursion (IsLaidItem d) d.globals
  pub parts : AllByRecursion IsLaidPart d.parts
  pub bytes : IsBytes (lay d)
