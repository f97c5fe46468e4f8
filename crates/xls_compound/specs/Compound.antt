-- What a compound file holds ([MS-CFB]): its sectors by the FAT, what its directory lists, and its mini
-- sectors. The cutoff is 1000 and a mini sector has 64 bytes, whatever the header says of the first.
use Rattle.std.specs.Prelude.{◌≡◌, ℕ, ◌==◌, List, Bool, Result, Ok, Err, nat_lt, if◌then◌else◌}
use Rattle.std.specs.String.{string_bytes}
use Rattle.xls_bytes.specs.Numbers.{u32s_of}
use Rattle.xls_sectors.specs.declared.error.SectorFault.{SectorFault}
use Rattle.xls_sectors.specs.declared.error.Table.TheVariants as tables
use Rattle.xls_sectors.specs.declared.header.Header.{Header}
use Rattle.xls_sectors.specs.Streams.{Space, next_in, IsAdjacent, Stream, WholeChain}
use Rattle.xls_sectors.specs.Chains.{Stops}
use Rattle.xls_sectors.specs.Tables.{Opened, OpensSectors, sectors_of}
use Rattle.xls_compound.specs.Items.{Item}
use Rattle.xls_compound.specs.Directory.{Listing, IsDirectory, IsDirectoryFault}
use Rattle.xls_compound.specs.declared.error.CompoundError.{CompoundError}
use Rattle.xls_compound.specs.declared.error.CompoundError.TheVariants as errors

-- an opened file
pub record Compound : Type 0 where
  pub sectors : Space
  pub mini : Space
  pub listing : Listing

-- streams of fewer bytes lie in mini sectors (2.2)
abbrev pub CUTOFF : ℕ
CUTOFF = 0x1000

-- a mini sector (2.4)
abbrev pub MINI_SECTOR_SIZE : ℕ
MINI_SECTOR_SIZE = 64

-- the mini sectors, by the entries of the mini FAT and the bytes of the mini stream
abbrev pub mini_sectors : List ℕ → List ℕ → Space
mini_sectors entries stream = record {
  table = tables.MiniFat;
  entries = entries;
  sector_size = MINI_SECTOR_SIZE;
  area = stream;
}

-- the sizes in a directory have 64 bits where sectors have 4,096 bytes
abbrev pub is_wide : Header → Bool
is_wide header = header.sector_size == 4096

-- ---- a file, in the order in which it is read

abbrev pub DirectoryBytes : Opened → Result (List ℕ) SectorFault → Type 0
DirectoryBytes opened = WholeChain (sectors_of opened) opened.header.first_directory

abbrev pub MiniFatBytes : Opened → Result (List ℕ) SectorFault → Type 0
MiniFatBytes opened = WholeChain (sectors_of opened) opened.header.first_mini_fat

-- the mini stream is the stream of the root
abbrev pub MiniStream : Opened → Listing → Result (List ℕ) SectorFault → Type 0
MiniStream opened listing = Stream (sectors_of opened) listing.mini_start listing.mini_size

-- the header and the FAT, the directory, the mini FAT and the mini stream
pub record HoldsCompound (file : List ℕ) (compound : Compound) : Type 0 where
  pub opened : Opened
  pub is_opened : OpensSectors file (Ok opened)
  pub sectors : compound.sectors ≡ sectors_of opened
  pub directory : List ℕ
  pub is_directory : DirectoryBytes opened (Ok directory)
  pub is_listing : IsDirectory (is_wide opened.header) directory compound.listing
  pub mini_fat : List ℕ
  pub is_mini_fat : MiniFatBytes opened (Ok mini_fat)
  pub mini_stream : List ℕ
  pub is_mini_stream : MiniStream opened compound.listing (Ok mini_stream)
  pub mini : compound.mini ≡ mini_sectors (u32s_of mini_fat) mini_stream

-- what is read before the mini FAT
pub record HoldsListing (file : List ℕ) (opened : Opened) (listing : Listing) : Type 0 where
  pub is_opened : OpensSectors file (Ok opened)
  pub directory : List ℕ
  pub is_directory : DirectoryBytes opened (Ok directory)
  pub is_listing : IsDirectory (is_wide opened.header) directory listing

-- why a file is refused: the first fault of its header and FAT, of its directory's chain, of its
-- directory, of the mini FAT's chain, of the mini stream, where all before it is there; unless memory
-- ran out
abbrev pub Refuses : List ℕ → CompoundError → Type 0
Refuses file errors.Memory = Unit {0}
Refuses file (errors.Tables fault) = OpensSectors file (Err fault)
Refuses file (errors.DirectoryChain fault) =
    (opened : Opened) × OpensSectors file (Ok opened) × DirectoryBytes opened (Err fault)
Refuses file (errors.Directory fault) =
    (opened : Opened) × (directory : List ℕ) × OpensSectors file (Ok opened) × DirectoryBytes opened (Ok directory)
    × IsDirectoryFault (is_wide opened.header) directory fault
Refuses file (errors.MiniFat fault) =
    (opened : Opened) × (listing : Listing) × HoldsListing file opened listing × MiniFatBytes opened (Err fault)
Refuses file (errors.MiniStream fault) =
    (opened : Opened) × (listing : Listing) × (mini_fat : List ℕ) × HoldsListing file opened listing
    × MiniFatBytes opened (Ok mini_fat) × MiniStream opened listing (Err fault)
Refuses file (errors.Stream name fault) = ⊥

-- ---- streams

-- where a stream of so many bytes lies
abbrev pub space_of : Compound → ℕ → Space
space_of compound size = if nat_lt size CUTOFF then compound.mini else compound.sectors

-- a storage has no bytes
abbrev pub size_of : Item → ℕ
size_of item = if item.is_stream then item.size else 0

-- the bytes of an item, so many as its size says, or the first fault of its chain
abbrev pub ItemBytes : Compound → Item → Result (List ℕ) SectorFault → Type 0
ItemBytes compound item = Stream (space_of compound (size_of item)) item.start (size_of item)

-- the sectors that an item's bytes need follow one another
pub record LiesAdjacent (compound : Compound) (item : Item) : Type 0 where
  pub sectors : List ℕ
  pub after : ℕ
  pub stops : Stops (next_in (space_of compound (size_of item))) item.start sectors after
  pub adjacent : IsAdjacent (space_of compound (size_of item)) (size_of item) sectors

-- why an item's bytes are refused, with its name
abbrev pub RefusesItem : Compound → Item → CompoundError → Type 0
RefusesItem compound item errors.Memory = Unit {0}
RefusesItem compound item (errors.Stream name fault) =
    (string_bytes name ≡ item.name) × ItemBytes compound item (Err fault)
RefusesItem compound item other = ⊥
