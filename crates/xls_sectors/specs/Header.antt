-- The header of a compound file ([MS-CFB] 2.2), its first 512 bytes.
--
-- Looked at, by their offsets: 0 the signature; 30 the sector shift; 32 the mini sector shift; 48 the
-- first directory sector; 60 and 64 the first mini FAT sector and the number of them; 68 and 72 the
-- same of the DIFAT; 76 the first 109 entries of the DIFAT. Of the two numbers of sectors only
-- whether they are 0. Not looked at: class identifier, versions (the shift decides), byte order,
-- numbers of directory and FAT sectors, transaction signature, cutoff (it is 00001000).
use Rattle.std.specs.Prelude.{ℕ, List, [], ◌∷◌, length, take, drop, Result, Ok, Err, nat_lt, not, ◌==◌, if◌then◌else◌}
use Rattle.std.specs.Str.{bytes_eq}
use Rattle.xls_bytes.specs.Numbers.{le, u32s_of}
use Rattle.xls_sectors.specs.declared.error.SectorFault.{SectorFault}
use Rattle.xls_sectors.specs.declared.error.SectorFault.TheVariants as faults
use Rattle.xls_sectors.specs.declared.header.Header.{Header}

-- numbers of sectors with a meaning of their own are not below the first; the end of a chain; a
-- sector that isn't in use (2.1)
abbrev pub SPECIAL : ℕ
SPECIAL = 0xFFFFFFFA

abbrev pub END_OF_CHAIN : ℕ
END_OF_CHAIN = 0xFFFFFFFE

abbrev pub FREE : ℕ
FREE = 0xFFFFFFFF

abbrev pub HEADER_SIZE : ℕ
HEADER_SIZE = 512

abbrev pub signature : List ℕ
signature = 0xD0 ∷ 0xCF ∷ 0x11 ∷ 0xE0 ∷ 0xA1 ∷ 0xB1 ∷ 0x1A ∷ 0xE1 ∷ []

-- a number of 16 or 32 bits at an offset
abbrev pub u16_at : ℕ → List ℕ → ℕ
u16_at offset file = le (take 2 (drop offset file))

abbrev pub u32_at : ℕ → List ℕ → ℕ
u32_at offset file = le (take 4 (drop offset file))

-- the first sector of a table, or the end of its chain where the number of its sectors is 0
abbrev pub first_of : ℕ → ℕ → List ℕ → ℕ
first_of offset count_offset file =
    if u32_at count_offset file == 0 then END_OF_CHAIN else u32_at offset file

-- the fields of a header, for the size of a sector
unfoldable pub header_fields : ℕ → List ℕ → Header
header_fields size file = record {
  sector_size = size;
  first_directory = u32_at 48 file;
  first_mini_fat = first_of 60 64 file;
  first_difat = first_of 68 72 file;
}

-- sectors of 512 bytes for the shift 0009, of 4,096 for 000C
abbrev pub by_shift : ℕ → List ℕ → Result Header SectorFault
by_shift shift file =
    if shift == 0x0009 then Ok (header_fields 512 file)
    else if shift == 0x000C then Ok (header_fields 4096 file)
    else Err (faults.SectorShift shift)

-- mini sectors of 64 bytes
abbrev pub by_mini_shift : ℕ → Result Header SectorFault → Result Header SectorFault
by_mini_shift shift (Ok header) =
    if shift == 0x0006 then Ok header else Err (faults.MiniSectorShift shift)
by_mini_shift shift (Err e) = Err e

-- the header of a file, or its first fault
unfoldable pub header_of : List ℕ → Result Header SectorFault
header_of file =
    if not (bytes_eq (take 8 file) signature) then Err faults.NotCompound
    else if nat_lt (length file) HEADER_SIZE then Err (faults.HeaderCut (length file))
    else by_mini_shift (u16_at 32 file) (by_shift (u16_at 30 file) file)

-- the 109 entries of the DIFAT in the header
abbrev pub header_entries : List ℕ → List ℕ
header_entries file = u32s_of (take 436 (drop 76 file))
