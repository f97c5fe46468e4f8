-- How streams are laid out in a compound file: a chain of sectors for each, in any order, the bytes cut
-- into them ([MS-CFB] 2.3, 2.4, 2.6).
use Rattle.std.specs.Prelude.{◌≡◌, ℕ, ◌<◌, List, [], ◌∷◌, ◌++◌, length, min, Some, None, Ok, slice_get, true}
use Rattle.std.specs.List.{position, AllByRecursion}
use Rattle.xls_bytes.specs.Numbers.{u32s_of}
use Rattle.xls_sectors.specs.Header.{SPECIAL, END_OF_CHAIN}
use Rattle.xls_sectors.specs.Streams.{Space, sector_at, chain_size}
use Rattle.xls_sectors.specs.Tables.{Opened, OpensSectors, sectors_of}
use Rattle.xls_compound.specs.Items.{Item, is_child, find_from}
use Rattle.xls_compound.specs.Directory.{Listing, IsDirectory}
use Rattle.xls_compound.specs.Compound.{Compound, HoldsCompound, is_wide, mini_sectors, space_of, ItemBytes}

-- the table leads from a number over these sectors to FFFFFFFE
abbrev pub IsLinked : Space → ℕ → List ℕ → Type 0
IsLinked space first [] = first ≡ END_OF_CHAIN
IsLinked space first (sector ∷ sectors) = (then : ℕ) × (first ≡ sector) × (sector < SPECIAL)
    × (slice_get space.entries sector ≡ Some then) × IsLinked space then sectors

-- the bytes are cut into these sectors: each is full but for the last, where anything may follow
abbrev pub StandsIn : Space → List ℕ → List ℕ → Type 0
StandsIn space [] bytes = bytes ≡ []
StandsIn space (sector ∷ sectors) bytes = (piece : List ℕ) × (padding : List ℕ) × (others : List ℕ)
    × (bytes ≡ piece ++ others) × (length piece ≡ min (length bytes) space.sector_size)
    × (sector_at space sector ≡ piece ++ padding) × StandsIn space sectors others

-- bytes that lie in a chain of sectors
pub record LiesIn (space : Space) (first : ℕ) (bytes : List ℕ) : Type 0 where
  pub sectors : List ℕ
  pub linked : IsLinked space first sectors
  pub stands : StandsIn space sectors bytes

-- bytes that fill a chain of sectors
pub record Fills (space : Space) (first : ℕ) (bytes : List ℕ) : Type 0 where
  pub sectors : List ℕ
  pub linked : IsLinked space first sectors
  pub stands : StandsIn space sectors bytes
  pub all : length bytes ≡ chain_size space sectors

-- a stream in the root
pub record NamedStream : Type 0 where
  -- in UTF-8
  pub name : List ℕ
  pub bytes : List ℕ

-- a directory lists a stream in the root, the first of its name, and its bytes lie in a chain
pub record IsLaid (sectors mini : Space) (listing : Listing) (stream : NamedStream) : Type 0 where
  pub place : ℕ
  pub item : Item
  pub is_first : position (is_child None stream.name) listing.items ≡ Some place
  pub is_item : slice_get listing.items place ≡ Some item
  pub kind : item.is_stream ≡ true
  pub size : item.size ≡ length stream.bytes
  pub lies : LiesIn (space_of (record { sectors = sectors; mini = mini; listing = listing }) item.size) item.start stream.bytes

-- a file in which these streams are laid out: its header and FAT; its directory, its mini FAT and its
-- mini stream in chains of sectors; and each stream
pub record IsLayout (file : List ℕ) (streams : List NamedStream) : Type 0 where
  pub opened : Opened
  pub is_opened : OpensSectors file (Ok opened)
  pub directory : List ℕ
  pub directory_fills : Fills (sectors_of opened) opened.header.first_directory directory
  pub listing : Listing
  pub is_listing : IsDirectory (is_wide opened.header) directory listing
  pub mini_fat : List ℕ
  pub mini_fat_fills : Fills (sectors_of opened) opened.header.first_mini_fat mini_fat
  pub mini_stream : List ℕ
  pub mini_stream_size : listing.mini_size ≡ length mini_stream
  pub mini_stream_lies : LiesIn (sectors_of opened) listing.mini_start mini_stream
  pub streams_laid : AllByRecursion (IsLaid (sectors_of opened) (mini_sectors (u32s_of mini_fat) mini_stream) listing) streams

-- the stream is found by its name, and has its bytes
abbrev pub IsFound : Compound → NamedStream → Type 0
IsFound compound stream = (place : ℕ) × (item : Item)
    × (find_from compound.listing.items None (stream.name ∷ []) ≡ Some place)
    × (slice_get compound.listing.items place ≡ Some item) × ItemBytes compound item (Ok stream.bytes)

-- a file that is laid out is opened, and each stream found is the one that was laid
abbrev pub LaidIsFound : Type 0
LaidIsFound = (file : List ℕ) (streams : List NamedStream) → IsLayout file streams
    → (compound : Compound) × HoldsCompound file compound × AllByRecursion (IsFound compound) streams
