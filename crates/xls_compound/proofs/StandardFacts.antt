-- Values that [MS-CFB] gives, so that a wrong rule in the specs does not check.
use Rattle.std.proofs.Common.{◌≡◌, ℕ, [], ◌∷◌, map, Bool, true, false, None, refl}
use Rattle.std.specs.List.{range_with_len}
use Rattle.xls_sectors.specs.declared.error.Table.TheVariants as tables
use Rattle.xls_sectors.specs.declared.header.Header.{Header}
use Rattle.xls_sectors.specs.Streams.{Space, sector_at}
use Rattle.xls_compound.specs.Items.{Item}
use Rattle.xls_compound.specs.Directory.{Listing}
use Rattle.xls_compound.specs.Compound.{Compound, CUTOFF, MINI_SECTOR_SIZE, mini_sectors, is_wide, space_of, size_of}
use Rattle.xls_compound.specs.Entries.{Entry, entries_from}

pub cutoff : CUTOFF ≡ 0x00001000
cutoff = refl

pub mini_sector_size : MINI_SECTOR_SIZE ≡ 0x40
mini_sector_size = refl

-- mini sector 2 is the third 64 bytes of the mini stream
pub third : sector_at (mini_sectors [] (range_with_len 0 256)) 2 ≡ range_with_len 128 64
third = refl

-- where streams lie, by their size
abbrev space : ℕ → Space
space size = record { table = tables.Fat; entries = []; sector_size = size; area = [] }

abbrev sample : Compound
sample = record { sectors = space 512; mini = space 64; listing = record { mini_start = 0; mini_size = 0; items = [] } }

pub lies : map (λ size. (space_of sample size).sector_size) (0 ∷ 1 ∷ 0x0FFF ∷ 0x1000 ∷ 0x1001 ∷ []) ≡ 64 ∷ 64 ∷ 64 ∷ 512 ∷ 512 ∷ []
lies = refl

-- sizes of 64 bits
abbrev header : ℕ → Header
header size = record { sector_size = size; first_directory = 0; first_mini_fat = 0; first_difat = 0 }

pub wide : map (λ size. is_wide (header size)) (512 ∷ 4096 ∷ []) ≡ false ∷ true ∷ []
wide = refl

-- a stream has its size, a storage none
abbrev item : Bool → Item
item is_stream = record { name = []; is_stream = is_stream; parent = None; start = 0; size = 0x1234 }

pub sizes : map (λ is_stream. size_of (item is_stream)) (true ∷ false ∷ []) ≡ 0x1234 ∷ 0 ∷ []
sizes = refl

-- the entries of a listing of two
abbrev listing : Listing
listing = record { mini_start = 0; mini_size = 0; items = item true ∷ item false ∷ [] }

pub all_entries : map (λ (e : Entry). e.place) (entries_from listing 0) ≡ 0 ∷ 1 ∷ []
unfolding entries_from
all_entries = refl
