-- Values that [MS-CFB] gives, so that a wrong rule in the specs does not check.
use Rattle.std.proofs.Common.{◌≡◌, ℕ, List, [], ◌∷◌, ◌++◌, map, codes, Bool, true, false, Option, Some, None, Ok, Err, refl}
use Rattle.std.specs.List.{range_with_len}
use Rattle.std.specs.Char.Utf16.{utf16_chars}
use Rattle.std.specs.Str.{chars}
use Rattle.ucd_case.proofs.Computing.{ucd_case}
use Rattle.xls_compound.specs.Names.{is_same_name}
use Rattle.xls_compound.specs.declared.fault.DirectoryFault.TheVariants as faults
use Rattle.xls_compound.specs.DirectoryEntries.{Entry, directory_entry_of, entries_of, none, is_storage, is_stream, is_root, is_name_size, name_of, child_of}
use Rattle.xls_compound.specs.Tree.{Tree, empty, node, tree_entry_at, met_after}
use Rattle.xls_compound.specs.Items.{Item, item_of, items_from, find_from, workbook}
use Rattle.xls_compound.specs.Directory.{root_in}

-- an entry of the bytes 00 to 7F (2.6.1): each field at its offset, the lowest byte first
pub fields_of_32 : directory_entry_of false (range_with_len 0 128) ≡ record {
  name = range_with_len 0 64;
  name_size = 0x4140;
  kind = 0x42;
  left = 0x47464544;
  right = 0x4B4A4948;
  child = 0x4F4E4D4C;
  start = 0x77767574;
  size = 0x7B7A7978;
}
fields_of_32 = refl

pub fields_of_64 : directory_entry_of true (range_with_len 0 128) ≡ record {
  name = range_with_len 0 64;
  name_size = 0x4140;
  kind = 0x42;
  left = 0x47464544;
  right = 0x4B4A4948;
  child = 0x4F4E4D4C;
  start = 0x77767574;
  size = 0x7F7E7D7C7B7A7978;
}
fields_of_64 = refl

-- an entry of a kind, with what it leads to
abbrev entry : ℕ → ℕ → ℕ → ℕ → Entry
entry kind left right child = record {
  name = 0x41 ∷ 0x00 ∷ 0x00 ∷ 0x00 ∷ [];
  name_size = 4;
  kind = kind;
  left = left;
  right = right;
  child = child;
  start = 7;
  size = 9;
}

-- the types 00 to 06: storages, streams, the root
pub storages : map (λ kind. is_storage (entry kind 0 0 0)) (range_with_len 0 7) ≡ false ∷ true ∷ false ∷ false ∷ false ∷ false ∷ false ∷ []
storages = refl

pub streams : map (λ kind. is_stream (entry kind 0 0 0)) (range_with_len 0 7) ≡ false ∷ false ∷ true ∷ false ∷ false ∷ false ∷ false ∷ []
streams = refl

pub roots : map (λ kind. is_root (entry kind 0 0 0)) (range_with_len 0 7) ≡ false ∷ false ∷ false ∷ false ∷ false ∷ true ∷ false ∷ []
roots = refl

-- the sizes of names at their limits
pub name_sizes : map is_name_size (0 ∷ 1 ∷ 2 ∷ 3 ∷ 4 ∷ 62 ∷ 63 ∷ 64 ∷ 65 ∷ 66 ∷ []) ≡ false ∷ false ∷ true ∷ false ∷ true ∷ true ∷ false ∷ true ∷ false ∷ false ∷ []
name_sizes = refl

-- FFFFFFFF is no entry, and a stream has no children
pub no_entry : none ≡ 0xFFFFFFFF
no_entry = refl

pub children : map child_of (entry 0x01 3 4 5 ∷ entry 0x02 3 4 5 ∷ entry 0x05 3 4 5 ∷ []) ≡ 5 ∷ 0xFFFFFFFF ∷ 0xFFFFFFFF ∷ []
children = refl

-- a name without its final 0000
pub name_a : name_of (entry 0x02 0 0 0) ≡ codes "A"
unfolding utf16_chars lib.Utf8.encode
name_a = refl

-- two entries of 128 bytes; what is no whole entry is in none
pub two_entries : map (λ e. e.kind) (entries_of false (range_with_len 0 128 ++ (range_with_len 1 128 ++ range_with_len 0 127))) ≡ 0x42 ∷ 0x43 ∷ []
unfolding entries_of
two_entries = refl

-- an entry below the root, met before, not there, of another type or with another size of its name
pub checks : map (tree_entry_at (entry 0x05 0 0 1 ∷ entry 0x01 0 0 2 ∷ entry 0x05 0 0 0 ∷ entry 0x00 0 0 0 ∷ record (entry 0x02 0 0 0) { name_size = 66 } ∷ []) (0 ∷ []))
    (range_with_len 0 6)
    ≡ Err (faults.Twice 0) ∷ Ok (entry 0x01 0 0 2) ∷ Err (faults.Kind 2 0x05) ∷ Err (faults.Kind 3 0x00) ∷ Err (faults.NameSize 4 66) ∷ Err (faults.Missing 5) ∷ []
checks = refl

-- the root is entry 0
pub no_root : map root_in ([] ∷ (entry 0x01 0 0 0 ∷ []) ∷ (entry 0x05 1 2 3 ∷ entry 0x01 0 0 0 ∷ []) ∷ [])
    ≡ Err faults.NoRoot ∷ Err faults.NoRoot ∷ Ok (entry 0x05 1 2 3) ∷ []
no_root = refl

-- an entry b with a on its left, which holds d, and with c on its right: the left first, then the entry, its children, the right
module _ (a b c d : Entry) where
  abbrev sample : Tree
  sample = node 1 b (node 2 a empty (node 4 d empty empty empty) empty) empty (node 3 c empty empty empty)

  pub in_order : items_from None 0 sample ≡ item_of None a ∷ item_of (Some 0) d ∷ item_of None b ∷ item_of None c ∷ []
  in_order = refl

  pub met_in_order : met_after (0 ∷ []) sample ≡ 3 ∷ 4 ∷ 2 ∷ 1 ∷ 0 ∷ []
  met_in_order = refl

-- what an item holds of its entry
pub item_fields : item_of (Some 3) (entry 0x02 0 0 0) ≡ record { name = codes "A"; is_stream = true; parent = Some 3; start = 7; size = 9 }
unfolding utf16_chars lib.Utf8.encode
item_fields = refl

abbrev item : List ℕ → Bool → Option ℕ → Item
item name is_stream parent = record { name = name; is_stream = is_stream; parent = parent; start = 0; size = 0 }

-- names are the same whatever their case, and no others
pub same_names : map (λ name. is_same_name (codes "Workbook") name) (codes "Workbook" ∷ codes "WORKBOOK" ∷ codes "workbooK" ∷ codes "Workbooks" ∷ codes "Workboo" ∷ codes "Workbock" ∷ [] ∷ [])
    ≡ true ∷ true ∷ true ∷ false ∷ false ∷ false ∷ false ∷ []
unfolding chars ucd_case
same_names = refl

-- é and É, sharp s and its capital, the long s and S; not e and é
pub same_letters : map (λ (pair : List ℕ × List ℕ). is_same_name pair.0 pair.1) ((0xC3 ∷ 0xA9 ∷ [], 0xC3 ∷ 0x89 ∷ []) ∷ (0xC3 ∷ 0x9F ∷ [], 0xE1 ∷ 0xBA ∷ 0x9E ∷ []) ∷ (0xC5 ∷ 0xBF ∷ [], codes "S") ∷ (codes "e", 0xC3 ∷ 0xA9 ∷ []) ∷ [])
    ≡ true ∷ true ∷ true ∷ false ∷ []
unfolding chars ucd_case
same_letters = refl

abbrev listed : List Item
listed = item (codes "Book") true (Some 1) ∷ item (codes "a") false None ∷ item (codes "BOOK") true None ∷ item (codes "b") false (Some 1) ∷ item (codes "c") true (Some 3) ∷ []

-- what is held by the root, and below it, and what isn't there
pub found : map (find_from listed None) ((codes "book" ∷ []) ∷ (codes "A" ∷ codes "book" ∷ []) ∷ (codes "a" ∷ codes "B" ∷ codes "C" ∷ []) ∷ (codes "b" ∷ []) ∷ [] ∷ [])
    ≡ Some 2 ∷ Some 0 ∷ Some 4 ∷ None ∷ None ∷ []
unfolding chars ucd_case
found = refl

-- the workbook is in the root, and `Workbook` before `Book`
pub workbooks : workbook listed ≡ Some 2
unfolding chars ucd_case
workbooks = refl

pub workbook_first : workbook (item (codes "Book") true None ∷ item (codes "Workbook") true None ∷ []) ≡ Some 1
unfolding chars ucd_case
workbook_first = refl

pub no_storage : workbook (item (codes "Workbook") false None ∷ item (codes "Book") true None ∷ []) ≡ Some 1
unfolding chars ucd_case
no_storage = refl
