-- The DIFAT ([MS-CFB] 2.5) and the FAT (2.3) of a file, and a file that is opened.
--
-- The first fault: the header's; then the DIFAT's chain, a loop or a number for which the file has no
-- whole sector; then, in the order in which they are listed, a sector of the FAT that isn't whole in
-- the file. The number of DIFAT sectors isn't trusted: the chain is followed to its end. Entries of
-- the FAT for sectors that the file doesn't have are left out.
use Rattle.std.specs.Prelude.{◌≡◌, ℕ, ◌-◌, ◌*◌, List, [], ◌∷◌, ◌++◌, length, take, drop, map, take_while, Option, Some, None, Result, Ok, Err, nat_lt, ◌==◌, ◌||◌, if◌then◌else◌}
use Rattle.std.specs.List.{flat_map}
use Rattle.std.specs.Int.{div_ceil}
use Rattle.xls_bytes.specs.Numbers.{le, u32s_of}
use Rattle.xls_sectors.specs.declared.error.Table.TheVariants as tables
use Rattle.xls_sectors.specs.declared.error.SectorFault.{SectorFault}
use Rattle.xls_sectors.specs.declared.error.SectorFault.TheVariants as faults
use Rattle.xls_sectors.specs.declared.header.Header.{Header}
use Rattle.xls_sectors.specs.Header.{SPECIAL, END_OF_CHAIN, FREE, header_of, header_entries}
use Rattle.xls_sectors.specs.Reading.{◌>>=◌}
use Rattle.xls_sectors.specs.Chains.{OfChain, last_of}
use Rattle.xls_sectors.specs.Streams.{Space}

-- what stands after the header's sector: sector n begins at byte n times the size of a sector
abbrev pub area_of : Header → List ℕ → List ℕ
area_of header file = drop header.sector_size file

-- the bytes of a sector, as far as they are there
abbrev pub bytes_at : ℕ → List ℕ → ℕ → List ℕ
bytes_at size area sector = take size (drop (sector * size) area)

-- ---- the DIFAT

-- the last number of a DIFAT sector is the next DIFAT sector, for a sector that is whole
abbrev pub next_difat : ℕ → List ℕ → ℕ → Option ℕ
next_difat size area sector =
    if nat_lt sector SPECIAL
    then (if length (bytes_at size area sector) == size
    then Some (le (drop (size - 4) (bytes_at size area sector))) else None)
    else None

-- its other numbers are entries
abbrev pub difat_entries : ℕ → List ℕ → ℕ → List ℕ
difat_entries size area sector = u32s_of (take (size - 4) (bytes_at size area sector))

-- the entries of a block that are in use: those up to its first FFFFFFFE or FFFFFFFF
abbrev pub in_use : List ℕ → List ℕ
in_use entries = take_while (λ n. nat_lt n END_OF_CHAIN) entries

-- the sectors of the FAT that the header and these DIFAT sectors list
abbrev pub listed_in : ℕ → List ℕ → List ℕ → List ℕ → List ℕ
listed_in size area entries sectors =
    flat_map in_use (entries ∷ map (difat_entries size area) sectors)

-- the same, where the DIFAT's chain ends
abbrev pub fat_sectors : ℕ → List ℕ → List ℕ → List ℕ → ℕ → Result (List ℕ) SectorFault
fat_sectors size area entries sectors after =
    if (after == END_OF_CHAIN) || (after == FREE) then Ok (listed_in size area entries sectors)
    else Err (faults.Leaves tables.Difat (last_of sectors) after)

-- the sectors of the FAT, by the entries of the header and the first DIFAT sector
abbrev pub Difat : ℕ → List ℕ → List ℕ → ℕ → Result (List ℕ) SectorFault → Type 0
Difat size area entries first result =
    OfChain (next_difat size area) first (faults.Loop tables.Difat first) (fat_sectors size area entries) result

-- ---- the FAT

-- the numbers in a sector of the FAT
abbrev pub fat_part : ℕ → List ℕ → ℕ → Result (List ℕ) SectorFault
fat_part size area sector =
    if nat_lt (length (bytes_at size area sector)) size
    then Err (faults.FatCut sector size (length (bytes_at size area sector)))
    else Ok (u32s_of (bytes_at size area sector))

-- those of all its sectors, put together
unfoldable pub fat_numbers : ℕ → List ℕ → List ℕ → Result (List ℕ) SectorFault
fat_numbers size area [] = Ok []
fat_numbers size area (sector ∷ sectors) = do
  part ← fat_part size area sector
  others ← fat_numbers size area sectors
  Ok (part ++ others)

-- the first of them, so many at most
abbrev pub fat_up_to : ℕ → ℕ → List ℕ → List ℕ → Result (List ℕ) SectorFault
fat_up_to most size area sectors =
    fat_numbers size area sectors >>= λ numbers. Ok (take most numbers)

-- ---- a file

-- a file's header, what stands after it, and its FAT
pub record Opened : Type 0 where
  pub header : Header
  pub area : List ℕ
  pub fat : List ℕ

-- the FAT by its sectors, with an entry at most for each sector of the file
abbrev pub opened_by : Header → List ℕ → List ℕ → Result Opened SectorFault
opened_by header area listed =
    fat_up_to (div_ceil (length area) header.sector_size) header.sector_size area listed
    >>= λ fat. Ok (record { header = header; area = area; fat = fat })

-- the DIFAT and the FAT after the header
abbrev pub OpensBy : Result Header SectorFault → List ℕ → Result Opened SectorFault → Type 0
OpensBy (Err e) file result = result ≡ Err e
OpensBy (Ok header) file result =
    (listed : Result (List ℕ) SectorFault)
    × Difat header.sector_size (area_of header file) (header_entries file) header.first_difat listed
    × (result ≡ (listed >>= opened_by header (area_of header file)))

-- a file opened, or its first fault
abbrev pub OpensSectors : List ℕ → Result Opened SectorFault → Type 0
OpensSectors file result = OpensBy (header_of file) file result

-- the sectors of an opened file
abbrev pub sectors_of : Opened → Space
sectors_of opened = record {
  table = tables.Fat;
  entries = opened.fat;
  sector_size = opened.header.sector_size;
  area = opened.area;
}
