-- Values that [MS-CFB] gives, so that a wrong rule in the specs does not check.
use Rattle.std.proofs.Common.{◌≡◌, ℕ, List, [], ◌∷◌, ◌++◌, Some, None, Ok, Err, refl, replicate, map}
use Rattle.std.specs.Prelude.{take, drop}
use Rattle.xls_sectors.specs.declared.error.Table.TheVariants as tables
use Rattle.xls_sectors.specs.declared.error.SectorFault.TheVariants as faults
use Rattle.xls_sectors.specs.Header.{header_of, header_fields, header_entries, SPECIAL, END_OF_CHAIN, FREE}
use Rattle.xls_sectors.specs.Chains.{Path}
use Rattle.xls_sectors.specs.Streams.{Space, next_in, gathered, stream_of, Stream, chain_of}
use Rattle.xls_sectors.specs.Tables.{next_difat, in_use, listed_in, fat_sectors, fat_numbers, fat_up_to}

-- ---- the header (2.2)

-- a header of 512 bytes: version 3, the directory from sector 1, the mini FAT from 2, no DIFAT
-- sector, and the FAT in sectors 0, 7 and 9
header : List ℕ
header =
    0xD0 ∷ 0xCF ∷ 0x11 ∷ 0xE0 ∷ 0xA1 ∷ 0xB1 ∷ 0x1A ∷ 0xE1 ∷ [] ++ replicate 16 0
    ++ 0x3E ∷ 0x00 ∷ 0x03 ∷ 0x00 ∷ 0xFE ∷ 0xFF ∷ 0x09 ∷ 0x00 ∷ 0x06 ∷ 0x00 ∷ [] ++ replicate 6 0
    ++ 0 ∷ 0 ∷ 0 ∷ 0 ∷ 3 ∷ 0 ∷ 0 ∷ 0 ∷ 1 ∷ 0 ∷ 0 ∷ 0 ∷ [] ++ 0 ∷ 0 ∷ 0 ∷ 0 ∷ 0x00 ∷ 0x10 ∷ 0x00 ∷ 0x00 ∷ []
    ++ 2 ∷ 0 ∷ 0 ∷ 0 ∷ 1 ∷ 0 ∷ 0 ∷ 0 ∷ 0x05 ∷ 0x00 ∷ 0x00 ∷ 0x00 ∷ 0 ∷ 0 ∷ 0 ∷ 0 ∷ []
    ++ 0 ∷ 0 ∷ 0 ∷ 0 ∷ 7 ∷ 0 ∷ 0 ∷ 0 ∷ 9 ∷ 0 ∷ 0 ∷ 0 ∷ [] ++ replicate 424 0xFF

version_3 : header_of header ≡ Ok (record { sector_size = 512; first_directory = 1; first_mini_fat = 2; first_difat = 0xFFFFFFFE })
unfolding header_of header_fields header
version_3 = refl

listed : in_use (header_entries header) ≡ 0 ∷ 7 ∷ 9 ∷ []
unfolding header
listed = refl

cut_short : header_of (take 511 header) ≡ Err (faults.HeaderCut 511)
unfolding header_of header
cut_short = refl

another_signature : header_of (0xD1 ∷ drop 1 header) ≡ Err faults.NotCompound
unfolding header_of header
another_signature = refl

empty_file : header_of [] ≡ Err faults.NotCompound
unfolding header_of
empty_file = refl

-- sectors of 512 bytes, of 4,096, and no others; mini sectors of 64
version_4 : header_of (take 30 header ++ 0x0C ∷ [] ++ drop 31 header)
    ≡ Ok (record { sector_size = 4096; first_directory = 1; first_mini_fat = 2; first_difat = 0xFFFFFFFE })
unfolding header_of header_fields header
version_4 = refl

another_shift : header_of (take 30 header ++ 0x0A ∷ [] ++ drop 31 header) ≡ Err (faults.SectorShift 0x0A)
unfolding header_of header
another_shift = refl

another_mini_shift : header_of (take 32 header ++ 0x07 ∷ [] ++ drop 33 header) ≡ Err (faults.MiniSectorShift 0x07)
unfolding header_of header_fields header
another_mini_shift = refl

-- a DIFAT sector where their number isn't 0
one_difat : header_of (take 72 header ++ 0x01 ∷ [] ++ drop 73 header)
    ≡ Ok (record { sector_size = 512; first_directory = 1; first_mini_fat = 2; first_difat = 5 })
unfolding header_of header_fields header
one_difat = refl

-- ---- chains (2.3), in sectors of 4 bytes

-- sectors 0, 2 and 1 in a chain; 3 and 4 in a loop; 5 and 6, and on to 9; 7 alone; 8 and on to FFFFFFFD
space : Space
space = record {
  table = tables.Fat;
  entries = 2 ∷ 0xFFFFFFFE ∷ 1 ∷ 4 ∷ 3 ∷ 6 ∷ 9 ∷ 0xFFFFFFFE ∷ 0xFFFFFFFD ∷ [];
  sector_size = 4;
  area = 10 ∷ 11 ∷ 12 ∷ 13 ∷ 20 ∷ 21 ∷ 22 ∷ 23 ∷ 30 ∷ 31 ∷ 32 ∷ 33 ∷ 40 ∷ 41 ∷ 42 ∷ 43 ∷ 50 ∷ 51 ∷ 52 ∷ 53
      ∷ 60 ∷ 61 ∷ 62 ∷ 63 ∷ 70 ∷ 71 ∷ 72 ∷ 73 ∷ 80 ∷ 81 ∷ [];
}

a_chain_of_three : Path (next_in space) 0 (0 ∷ 2 ∷ 1 ∷ []) 0xFFFFFFFE
unfolding space
a_chain_of_three = (refl, (2, refl, (refl, (1, refl, (refl, (0xFFFFFFFE, refl, refl))))))

its_end : next_in space 0xFFFFFFFE ≡ None
unfolding space
its_end = refl

a_loop : Path (next_in space) 3 (3 ∷ 4 ∷ []) 3
unfolding space
a_loop = (refl, (4, refl, (refl, (3, refl, refl))))

one_that_leaves : Path (next_in space) 5 (5 ∷ 6 ∷ []) 9
unfolding space
one_that_leaves = (refl, (6, refl, (refl, (9, refl, refl))))

not_there : next_in space 9 ≡ None
unfolding space
not_there = refl

a_table_sector : next_in space 0xFFFFFFFD ≡ None
unfolding space
a_table_sector = refl

-- two sectors out of order, cut at the size
out_of_order : stream_of space 0 10 (0 ∷ 2 ∷ 1 ∷ []) 0xFFFFFFFE ≡ Ok (10 ∷ 11 ∷ 12 ∷ 13 ∷ 30 ∷ 31 ∷ 32 ∷ 33 ∷ 20 ∷ 21 ∷ [])
unfolding space gathered
out_of_order = refl

longer_than_its_stream : stream_of space 0 3 (0 ∷ 2 ∷ 1 ∷ []) 0xFFFFFFFE ≡ Ok (10 ∷ 11 ∷ 12 ∷ [])
unfolding space gathered
longer_than_its_stream = refl

too_short : stream_of space 0 13 (0 ∷ 2 ∷ 1 ∷ []) 0xFFFFFFFE ≡ Err (faults.Short tables.Fat 0 13 12)
unfolding space
too_short = refl

on_to_nothing : stream_of space 5 9 (5 ∷ 6 ∷ []) 9 ≡ Err (faults.Leaves tables.Fat (Some 6) 9)
unfolding space
on_to_nothing = refl

not_needed : stream_of space 5 8 (5 ∷ 6 ∷ []) 9 ≡ Ok (60 ∷ 61 ∷ 62 ∷ 63 ∷ 70 ∷ 71 ∷ 72 ∷ 73 ∷ [])
unfolding space gathered
not_needed = refl

begins_nowhere : stream_of space 9 1 [] 9 ≡ Err (faults.Leaves tables.Fat None 9)
unfolding space
begins_nowhere = refl

-- sector 7 is cut by the end of the area
the_last_is_cut : stream_of space 7 2 (7 ∷ []) 0xFFFFFFFE ≡ Ok (80 ∷ 81 ∷ [])
unfolding space gathered
the_last_is_cut = refl

by_more_than_is_needed : stream_of space 7 3 (7 ∷ []) 0xFFFFFFFE ≡ Err (faults.Cut tables.Fat 7 3 2)
unfolding space gathered
by_more_than_is_needed = refl

nothing : Stream space 3 0 (Ok [])
nothing = refl

-- whole chains
a_whole_chain : chain_of space (0 ∷ 2 ∷ []) 0xFFFFFFFE ≡ Ok (10 ∷ 11 ∷ 12 ∷ 13 ∷ 30 ∷ 31 ∷ 32 ∷ 33 ∷ [])
unfolding space gathered
a_whole_chain = refl

with_a_cut_last : chain_of space (1 ∷ 7 ∷ []) 0xFFFFFFFE ≡ Ok (20 ∷ 21 ∷ 22 ∷ 23 ∷ 80 ∷ 81 ∷ [])
unfolding space gathered
with_a_cut_last = refl

with_a_cut_first : chain_of space (7 ∷ 1 ∷ []) 0xFFFFFFFE ≡ Err (faults.Cut tables.Fat 7 4 2)
unfolding space gathered
with_a_cut_first = refl

no_end : chain_of space (5 ∷ 6 ∷ []) 9 ≡ Err (faults.Leaves tables.Fat (Some 6) 9)
unfolding space
no_end = refl

no_sectors : chain_of space [] 0xFFFFFFFE ≡ Ok []
unfolding gathered
no_sectors = refl

-- ---- the DIFAT (2.5) and the FAT (2.3), in sectors of 12 bytes

area : List ℕ
area = 1 ∷ 0 ∷ 0 ∷ 0 ∷ 2 ∷ 0 ∷ 0 ∷ 0 ∷ 0xFE ∷ 0xFF ∷ 0xFF ∷ 0xFF ∷ 3 ∷ 0 ∷ 0 ∷ 0 ∷ 4 ∷ 0 ∷ 0 ∷ 0 ∷ 5 ∷ 0 ∷ 0 ∷ 0 ∷ 6 ∷ []

a_difat_sector : next_difat 12 area 0 ≡ Some 0xFFFFFFFE
unfolding area
a_difat_sector = refl

the_next : next_difat 12 area 1 ≡ Some 5
unfolding area
the_next = refl

not_whole : next_difat 12 area 2 ≡ None
unfolding area
not_whole = refl

-- the header's entries up to the first FFFFFFFF, and then those of the sectors
blocks : listed_in 12 area (9 ∷ 0xFFFFFFFF ∷ 8 ∷ []) (1 ∷ 0 ∷ []) ≡ 9 ∷ 3 ∷ 4 ∷ 1 ∷ 2 ∷ []
unfolding area
blocks = refl

up_to_an_end : in_use (7 ∷ 0xFFFFFFFD ∷ 0xFFFFFFFE ∷ 8 ∷ []) ≡ 7 ∷ 0xFFFFFFFD ∷ []
up_to_an_end = refl

its_last_number : map (fat_sectors 12 area [] []) (0xFFFFFFFE ∷ 0xFFFFFFFF ∷ 0xFFFFFFFD ∷ [])
    ≡ Ok [] ∷ Ok [] ∷ Err (faults.Leaves tables.Difat None 0xFFFFFFFD) ∷ []
its_last_number = refl

the_numbers : fat_up_to 5 12 area (1 ∷ 0 ∷ []) ≡ Ok (3 ∷ 4 ∷ 5 ∷ 1 ∷ 2 ∷ [])
unfolding area fat_numbers
the_numbers = refl

a_cut_fat : fat_up_to 5 12 area (1 ∷ 2 ∷ []) ≡ Err (faults.FatCut 2 12 1)
unfolding area fat_numbers
a_cut_fat = refl

-- ---- numbers with a meaning of their own (2.1)
special : (SPECIAL ∷ END_OF_CHAIN ∷ FREE ∷ []) ≡ 0xFFFFFFFA ∷ 0xFFFFFFFE ∷ 0xFFFFFFFF ∷ []
special = refl
