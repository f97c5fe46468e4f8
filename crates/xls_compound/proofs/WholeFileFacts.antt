-- A whole file of version 3 ([MS-CFB] 3 shows one of the same parts): a stream `L` of 4,096 bytes in sectors, a stream `s` of
-- 3 bytes in a mini sector. Its FAT is listed in a DIFAT sector, though it is small by the header's counts.
use Rattle.std.proofs.Common.{◌≡◌, ℕ, List, [], ◌∷◌, ◌++◌, ◌%◌, ◌/◌, take, codes, replicate, true, false, None, Ok, inl, refl, arith}
use Rattle.std.specs.List.{flat_map}
use Rattle.std.specs.Char.Utf16.{utf16_chars}
use Rattle.xls_bytes.specs.Numbers.{u32s_of}
use Rattle.xls_sectors.specs.Header.{header_of, header_fields}
use Rattle.xls_sectors.specs.Streams.{gathered, WholeChain}
use Rattle.xls_sectors.specs.Tables.{Opened, OpensSectors, fat_numbers, sectors_of}
use Rattle.xls_compound.specs.DirectoryEntries.{Entry, entries_of, directory_entry_of}
use Rattle.xls_compound.specs.Tree.{empty, node}
use Rattle.xls_compound.specs.Items.{Item}
use Rattle.xls_compound.specs.Directory.{Listing, IsDirectory}
use Rattle.xls_compound.specs.Compound.{Compound, HoldsCompound, mini_sectors, ItemBytes}

-- a number of 32 bits, the lowest byte first
abbrev four : ℕ → List ℕ
four n = n % 256 ∷ n / 256 % 256 ∷ n / 65536 % 256 ∷ n / 16777216 ∷ []

-- numbers up to the end of a sector of 512 bytes, and free entries after them
abbrev numbers : List ℕ → List ℕ
numbers ns = take 512 (flat_map four ns ++ replicate 512 0xFF)

abbrev header : List ℕ
header = 0xD0 ∷ 0xCF ∷ 0x11 ∷ 0xE0 ∷ 0xA1 ∷ 0xB1 ∷ 0x1A ∷ 0xE1 ∷ replicate 16 0
    ++ (0x3E ∷ 0x00 ∷ 0x03 ∷ 0x00 ∷ 0xFE ∷ 0xFF ∷ 0x09 ∷ 0x00 ∷ 0x06 ∷ 0x00 ∷ replicate 6 0)
    ++ (four 0 ++ four 1 ++ four 2 ++ four 0 ++ four 0x1000 ++ four 3 ++ four 1 ++ four 0 ++ four 1 ++ replicate 436 0xFF)

-- sector 0 the DIFAT, whose one entry is sector 1, the FAT; 2 the directory; 3 the mini FAT; 4 the mini stream; 5 to 12 the stream
abbrev difat : List ℕ
difat = four 1 ++ replicate 504 0xFF ++ four 0xFFFFFFFE

abbrev fat : List ℕ
fat = numbers (0xFFFFFFFC ∷ 0xFFFFFFFD ∷ 0xFFFFFFFE ∷ 0xFFFFFFFE ∷ 0xFFFFFFFE ∷ 6 ∷ 7 ∷ 8 ∷ 9 ∷ 10 ∷ 11 ∷ 12 ∷ 0xFFFFFFFE ∷ [])

-- a name of one letter, a type, left, right, child, first sector and size
abbrev entry : ℕ → ℕ → ℕ → ℕ → ℕ → ℕ → ℕ → List ℕ
entry letter kind left right child start size =
    letter ∷ 0 ∷ replicate 62 0 ++ (4 ∷ 0 ∷ kind ∷ 1 ∷ []) ++ (four left ++ four right ++ four child)
    ++ replicate 36 0 ++ (four start ++ four size ++ four 0)

abbrev directory : List ℕ
directory = entry 0x52 5 0xFFFFFFFF 0xFFFFFFFF 1 4 64 ++ entry 0x4C 2 0xFFFFFFFF 2 0xFFFFFFFF 5 4096
    ++ entry 0x73 2 0xFFFFFFFF 0xFFFFFFFF 0xFFFFFFFF 0 3 ++ replicate 128 0

abbrev file : List ℕ
file = header ++ difat ++ fat ++ directory ++ numbers (0xFFFFFFFE ∷ []) ++ (codes "abc" ++ replicate 509 0) ++ replicate 4096 7

pub header_is : header_of file ≡ Ok (record { sector_size = 512; first_directory = 2; first_mini_fat = 3; first_difat = 0 })
unfolding header_of header_fields
header_is = refl

abbrev area : List ℕ
area = difat ++ fat ++ directory ++ numbers (0xFFFFFFFE ∷ []) ++ (codes "abc" ++ replicate 509 0) ++ replicate 4096 7

abbrev opened : Opened
opened = record {
  header = record { sector_size = 512; first_directory = 2; first_mini_fat = 3; first_difat = 0 };
  area = area;
  fat = 0xFFFFFFFC ∷ 0xFFFFFFFD ∷ 0xFFFFFFFE ∷ 0xFFFFFFFE ∷ 0xFFFFFFFE ∷ 6 ∷ 7 ∷ 8 ∷ 9 ∷ 10 ∷ 11 ∷ 12 ∷ 0xFFFFFFFE ∷ [];
}

pub opened_is : OpensSectors file (Ok opened)
unfolding header_of header_fields fat_numbers
opened_is = (Ok (1 ∷ []), inl (0 ∷ [], (0xFFFFFFFE, record { path = (refl, (0xFFFFFFFE, refl, refl)); stop = refl }, refl)), refl)

pub directory_is : WholeChain (sectors_of opened) 2 (Ok directory)
unfolding gathered
directory_is = inl (2 ∷ [], (0xFFFFFFFE, record { path = (refl, (0xFFFFFFFE, refl, refl)); stop = refl }, refl))

abbrev item : ℕ → ℕ → ℕ → Item
item letter start size = record { name = letter ∷ []; is_stream = true; parent = None; start = start; size = size }

abbrev listing : Listing
listing = record { mini_start = 4; mini_size = 64; items = item 0x4C 5 4096 ∷ item 0x73 0 3 ∷ [] }

abbrev field_entry : ℕ → ℕ → ℕ → ℕ → ℕ → ℕ → ℕ → Entry
field_entry letter kind left right child start size = directory_entry_of false (entry letter kind left right child start size)

pub listing_is : IsDirectory false directory listing
unfolding entries_of utf16_chars lib.Utf8.encode
listing_is = record {
  root = field_entry 0x52 5 0xFFFFFFFF 0xFFFFFFFF 1 4 64;
  is_root = refl;
  tree = node 1 (field_entry 0x4C 2 0xFFFFFFFF 2 0xFFFFFFFF 5 4096) empty empty (node 2 (field_entry 0x73 2 0xFFFFFFFF 0xFFFFFFFF 0xFFFFFFFF 0 3) empty empty empty);
  is_tree = (refl, omega arith, refl, refl, refl, (refl, omega arith, refl, refl, refl, refl));
  start = refl;
  size = refl;
  items = refl;
}

abbrev mini_stream : List ℕ
mini_stream = codes "abc" ++ replicate 61 0

abbrev compound : Compound
compound = record {
  sectors = sectors_of opened;
  mini = mini_sectors (u32s_of (numbers (0xFFFFFFFE ∷ []))) mini_stream;
  listing = listing;
}

pub held : HoldsCompound file compound
unfolding gathered
held = record {
  opened = opened;
  is_opened = opened_is;
  sectors = refl;
  directory = directory;
  is_directory = directory_is;
  is_listing = listing_is;
  mini_fat = numbers (0xFFFFFFFE ∷ []);
  is_mini_fat = inl (3 ∷ [], (0xFFFFFFFE, record { path = (refl, (0xFFFFFFFE, refl, refl)); stop = refl }, refl));
  mini_stream = mini_stream;
  is_mini_stream = inl (4 ∷ [], (0xFFFFFFFE, record { path = (refl, (0xFFFFFFFE, refl, refl)); stop = refl }, refl));
  mini = refl;
}

-- the stream in sectors, and the one in a mini sector
pub long_bytes : ItemBytes compound (item 0x4C 5 4096) (Ok (replicate 4096 7))
unfolding gathered
long_bytes = inl (
  5 ∷ 6 ∷ 7 ∷ 8 ∷ 9 ∷ 10 ∷ 11 ∷ 12 ∷ [],
  (
    0xFFFFFFFE,
    record { path = (refl, (6, refl, (refl, (7, refl, (refl, (8, refl, (refl, (9, refl, (refl, (10, refl, (refl, (11, refl, (refl, (12, refl, (refl, (0xFFFFFFFE, refl, refl)))))))))))))))); stop = refl },
    refl,
  ),
)

pub short_bytes : ItemBytes compound (item 0x73 0 3) (Ok (codes "abc"))
unfolding gathered
short_bytes = inl (0 ∷ [], (0xFFFFFFFE, record { path = (refl, (0xFFFFFFFE, refl, refl)); stop = refl }, refl))

-- ---- version 4: the FAT in sector 0, the directory in 1, the stream in 2, whose size has 64 bits

abbrev header_4 : List ℕ
header_4 = 0xD0 ∷ 0xCF ∷ 0x11 ∷ 0xE0 ∷ 0xA1 ∷ 0xB1 ∷ 0x1A ∷ 0xE1 ∷ replicate 16 0
    ++ (0x3E ∷ 0x00 ∷ 0x04 ∷ 0x00 ∷ 0xFE ∷ 0xFF ∷ 0x0C ∷ 0x00 ∷ 0x06 ∷ 0x00 ∷ replicate 6 0)
    ++ (four 1 ++ four 1 ++ four 1 ++ four 0 ++ four 0x1000 ++ four 0xFFFFFFFE ++ four 0 ++ four 0xFFFFFFFE ++ four 0 ++ four 0 ++ replicate 432 0xFF ++ replicate 3584 0)

abbrev directory_4 : List ℕ
directory_4 = entry 0x52 5 0xFFFFFFFF 0xFFFFFFFF 1 0xFFFFFFFE 0 ++ entry 0x4C 2 0xFFFFFFFF 0xFFFFFFFF 0xFFFFFFFF 2 4096 ++ replicate 3840 0

abbrev area_4 : List ℕ
area_4 = four 0xFFFFFFFD ++ four 0xFFFFFFFE ++ four 0xFFFFFFFE ++ replicate 4084 0xFF ++ directory_4 ++ replicate 4096 7

abbrev opened_4 : Opened
opened_4 = record {
  header = record { sector_size = 4096; first_directory = 1; first_mini_fat = 0xFFFFFFFE; first_difat = 0xFFFFFFFE };
  area = area_4;
  fat = 0xFFFFFFFD ∷ 0xFFFFFFFE ∷ 0xFFFFFFFE ∷ [];
}

pub opened_is_4 : OpensSectors (header_4 ++ area_4) (Ok opened_4)
unfolding header_of header_fields fat_numbers
opened_is_4 = (Ok (0 ∷ []), inl ([], (0xFFFFFFFE, record { path = refl; stop = refl }, refl)), refl)

abbrev compound_4 : Compound
compound_4 = record {
  sectors = sectors_of opened_4;
  mini = mini_sectors [] [];
  listing = record { mini_start = 0xFFFFFFFE; mini_size = 0; items = item 0x4C 2 4096 ∷ [] };
}

pub held_4 : HoldsCompound (header_4 ++ area_4) compound_4
unfolding gathered entries_of utf16_chars lib.Utf8.encode
held_4 = record {
  opened = opened_4;
  is_opened = opened_is_4;
  sectors = refl;
  directory = directory_4;
  is_directory = inl (1 ∷ [], (0xFFFFFFFE, record { path = (refl, (0xFFFFFFFE, refl, refl)); stop = refl }, refl));
  is_listing = record {
    root = directory_entry_of true (entry 0x52 5 0xFFFFFFFF 0xFFFFFFFF 1 0xFFFFFFFE 0);
    is_root = refl;
    tree = node 1 (directory_entry_of true (entry 0x4C 2 0xFFFFFFFF 0xFFFFFFFF 0xFFFFFFFF 2 4096)) empty empty empty;
    is_tree = (refl, omega arith, refl, refl, refl, refl);
    start = refl;
    size = refl;
    items = refl;
  };
  mini_fat = [];
  is_mini_fat = inl ([], (0xFFFFFFFE, record { path = refl; stop = refl }, refl));
  mini_stream = [];
  is_mini_stream = refl;
  mini = refl;
}

pub bytes_4 : ItemBytes compound_4 (item 0x4C 2 4096) (Ok (replicate 4096 7))
unfolding gathered
bytes_4 = inl (2 ∷ [], (0xFFFFFFFE, record { path = (refl, (0xFFFFFFFE, refl, refl)); stop = refl }, refl))
