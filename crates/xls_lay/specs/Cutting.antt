-- For the proofs: the canonical bytes of a list entry by entry, and how many they are.
use Rattle.std.specs.Prelude.{ℕ, ◌+◌, List, [], ◌∷◌, ◌++◌, length, Some, None}
use Rattle.std.specs.List.{flat_map}
use Rattle.xls_stream.specs.Stream.{record_bytes, group_bytes}
use Rattle.xls_stream.specs.StringTable.{Mark, prefix_of}
use Rattle.xls_stream.specs.Listing.{Kept, ListEntry, plain_entry, table_entry, sheet_entry}
use Rattle.xls_stream.specs.declared.types.TheConstants as types
use Rattle.xls_layouts.specs.LaidStrings.{pieces_of, marks_of_strings, table_group}
use Rattle.xls_layouts.specs.Layout.{sheet_body}
use Rattle.xls_layouts.specs.Canonical.{canonical_strings, counts_of}

-- ---- records and parts

-- the bytes of a record that has no Continue
abbrev pub kept_bytes : Kept → List ℕ
kept_bytes k = record_bytes k.typ k.body

abbrev pub bof_bytes : List ℕ
bof_bytes = record_bytes types.BOF (0x00 ∷ 0x06 ∷ 0x10 ∷ 0x00 ∷ [])

abbrev pub eof_bytes : List ℕ
eof_bytes = record_bytes types.EOF []

-- the part of a sheet of these records
abbrev pub part_of : List Kept → List ℕ
part_of kept = bof_bytes ++ (flat_map kept_bytes kept ++ eof_bytes)

-- the part of an entry, if it is a sheet
abbrev pub part_bytes : ListEntry → List ℕ
part_bytes (plain_entry typ body) = []
part_bytes (table_entry strings) = []
part_bytes (sheet_entry state kind name kept) = part_of kept

abbrev pub part_size : ListEntry → ℕ
part_size e = length (part_bytes e)

-- ---- the globals

-- the SST record of strings, with its Continue records
abbrev pub table_bytes : List (List ℕ) → List ℕ
table_bytes strings =
    group_bytes (table_group (counts_of strings) (marks_of_strings (canonical_strings 8 strings)))

-- an entry in the globals, where its part begins at this offset if it is a sheet
abbrev pub entry_bytes : ℕ → ListEntry → List ℕ
entry_bytes offset (plain_entry typ body) = record_bytes typ body
entry_bytes offset (table_entry strings) = table_bytes strings
entry_bytes offset (sheet_entry state kind name kept) =
    record_bytes types.BOUND_SHEET_8 (sheet_body offset state kind name)

abbrev pub globals_size : ListEntry → ℕ
globals_size e = length (entry_bytes 0 e)

-- ---- a whole list

-- its globals, where the first part begins at this offset
abbrev pub globals_from : ℕ → List ListEntry → List ℕ
globals_from offset [] = eof_bytes
globals_from offset (e ∷ list) = entry_bytes offset e ++ globals_from (offset + part_size e) list

abbrev pub parts_from : List ListEntry → List ℕ
parts_from list = flat_map part_bytes list

-- ---- the cuts of a string table

-- a record of this type whose body begins with these bytes and goes on with these marks
abbrev pub rest_bytes : ℕ → List ℕ → List Mark → List ℕ
rest_bytes typ prefix ms = record_bytes typ (prefix ++ prefix_of ms) ++ flat_map (record_bytes 0x003C) (pieces_of ms)

-- the bytes that these marks add: a mark begins a record with a head of four bytes
abbrev pub marks_size : List Mark → ℕ
marks_size [] = 0
marks_size (None ∷ ms) = 4 + marks_size ms
marks_size (Some b ∷ ms) = 1 + marks_size ms
