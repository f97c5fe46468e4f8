-- The entries of a directory ([MS-CFB] 2.6.1): 128 bytes each. Not looked at are the colour, the
-- class, the state and the two times, and whether the name ends in 0000.
use Rattle.std.specs.Prelude.{ℕ, ◌*◌, ◌/◌, ◌-◌, ◌%◌, ◌&&◌, ◌==◌, nat_le, List, length, take, drop, map, Bool, if◌then◌else◌}
use Rattle.std.specs.List.{range_with_len}
use Rattle.std.specs.Str.{encode_utf8_all}
use Rattle.xls_bytes.specs.Numbers.{le}
use Rattle.xls_text.specs.declared.encoding.XlsEncoding.TheVariants.{Utf16}
use Rattle.xls_text.specs.Pages.{decoded}

pub record Entry : Type 0 where
  -- the field of the name, and how many of its bytes the name takes with its final 0000
  pub name : List ℕ
  pub name_size : ℕ
  -- 01 a storage, 02 a stream, 05 the root
  pub kind : ℕ
  -- the numbers of its siblings and of its first child
  pub left : ℕ
  pub right : ℕ
  pub child : ℕ
  -- the first sector and the number of bytes
  pub start : ℕ
  pub size : ℕ

-- the number of n bytes that stands at an offset
abbrev pub field : ℕ → ℕ → List ℕ → ℕ
field n offset bytes = le (take n (drop offset bytes))

-- the entry that the bytes begin with; a size has 64 bits only where sectors have 4,096 bytes
abbrev pub directory_entry_of : Bool → List ℕ → Entry
directory_entry_of is_wide bytes = record {
  name = take 64 bytes;
  name_size = field 2 64 bytes;
  kind = field 1 66 bytes;
  left = field 4 68 bytes;
  right = field 4 72 bytes;
  child = field 4 76 bytes;
  start = field 4 116 bytes;
  size = field (if is_wide then 8 else 4) 120 bytes;
}

-- the entries of a directory, each of 128 bytes; bytes at its end that are no whole entry are in none
unfoldable pub entries_of : Bool → List ℕ → List Entry
entries_of is_wide bytes =
    map (λ i. directory_entry_of is_wide (drop (128 * i) bytes)) (range_with_len 0 (length bytes / 128))

-- FFFFFFFF: no entry
abbrev pub none : ℕ
none = 0xFFFFFFFF

abbrev pub is_storage : Entry → Bool
is_storage entry = entry.kind == 0x01

abbrev pub is_stream : Entry → Bool
is_stream entry = entry.kind == 0x02

abbrev pub is_root : Entry → Bool
is_root entry = entry.kind == 0x05

-- a name has an even number of bytes, its final 0000 included, at most 64
abbrev pub is_name_size : ℕ → Bool
is_name_size n = nat_le 2 n && nat_le n 64 && (n % 2 == 0)

-- the name in UTF-8, by UTF-16, without its final 0000; a unit that is half of no pair is U+FFFD
abbrev pub name_of : Entry → List ℕ
name_of entry = encode_utf8_all (decoded Utf16 (take (entry.name_size - 2) entry.name))

-- where the children of an entry begin: a stream has none, whatever its field holds
abbrev pub child_of : Entry → ℕ
child_of entry = if is_storage entry then entry.child else none
