-- The bytes of chains ([MS-CFB] 2.3, 2.4, 2.6): of a stream, which has a size, and of a whole chain.
--
-- The first fault: a loop anywhere in the chain; then a chain with fewer bytes than the stream, by
-- what stands after its last sector; then, in the order of the chain, a sector of which not all that
-- is needed is there. What stands in the chain after the sectors that the stream needs changes
-- nothing, but for a loop. That two streams share a sector, or that a chain enters a table's own
-- sectors, is not looked for.
use Rattle.std.specs.Prelude.{◌≡◌, ℕ, zero, suc, ◌+◌, ◌*◌, ◌-◌, min, List, [], ◌∷◌, ◌++◌, length, take, drop, slice_get, Option, None, Result, Ok, Err, nat_lt, ◌==◌, ◌||◌, ◌&&◌, Bool, if◌then◌else◌, true, ◌≤◌, Some}
use Rattle.xls_sectors.specs.declared.error.Table.{Table}
use Rattle.xls_sectors.specs.declared.error.SectorFault.{SectorFault}
use Rattle.xls_sectors.specs.declared.error.SectorFault.TheVariants as faults
use Rattle.xls_sectors.specs.Header.{SPECIAL, END_OF_CHAIN}
use Rattle.xls_sectors.specs.Reading.{◌>>=◌}
use Rattle.xls_sectors.specs.Chains.{OfChain, last_of}

-- a table, the bytes of a sector, and the area in which the sectors lie: the file without its
-- header's sector, or the mini stream
pub record Space : Type 0 where
  pub table : Table
  pub entries : List ℕ
  pub sector_size : ℕ
  pub area : List ℕ

-- the entry of a sector; a special number is no sector's
abbrev pub next_in : Space → ℕ → Option ℕ
next_in space number =
    if nat_lt number SPECIAL then slice_get space.entries number else None

-- what is there of a sector: only the last in the area may be cut
abbrev pub sector_at : Space → ℕ → List ℕ
sector_at space number = take space.sector_size (drop (number * space.sector_size) space.area)

-- the first bytes of a sector, so many of them
abbrev pub part_of : Space → ℕ → ℕ → Result (List ℕ) SectorFault
part_of space size sector =
    if nat_lt (length (sector_at space sector)) size
    then Err (faults.Cut space.table sector size (length (sector_at space sector)))
    else Ok (take size (sector_at space sector))

-- the bytes of these sectors up to a size, put together
unfoldable pub gathered : Space → ℕ → List ℕ → Result (List ℕ) SectorFault
gathered space size [] = Ok []
gathered space size (sector ∷ sectors) = do
  part ← part_of space (min size space.sector_size) sector
  others ← gathered space (size - space.sector_size) sectors
  Ok (part ++ others)

-- a chain that is needed further than its last sector
abbrev pub leaves : Space → List ℕ → ℕ → SectorFault
leaves space sectors after = faults.Leaves space.table (last_of sectors) after

abbrev pub too_short : Space → ℕ → ℕ → List ℕ → ℕ → SectorFault
too_short space first size sectors after =
    if after == END_OF_CHAIN
    then faults.Short space.table first size (length sectors * space.sector_size)
    else leaves space sectors after

-- a stream's bytes, by the sectors of its chain and the number after them
abbrev pub stream_of : Space → ℕ → ℕ → List ℕ → ℕ → Result (List ℕ) SectorFault
stream_of space first size sectors after =
    if nat_lt (length sectors * space.sector_size) size
    then Err (too_short space first size sectors after)
    else gathered space size sectors

-- the bytes of a stream with this first sector and size; one of size 0 has no chain
abbrev pub Stream : Space → ℕ → ℕ → Result (List ℕ) SectorFault → Type 0
Stream space first zero result = result ≡ Ok []
Stream space first (suc n) result =
    OfChain (next_in space) first (faults.Loop space.table first) (stream_of space first (suc n)) result

-- how many bytes the sectors of a whole chain have: the last may be cut by the end of the area
abbrev pub chain_size : Space → List ℕ → ℕ
chain_size space [] = 0
chain_size space (sector ∷ []) = length (sector_at space sector)
chain_size space (sector ∷ other ∷ sectors) = space.sector_size + chain_size space (other ∷ sectors)

-- all bytes of a chain, which has to end
abbrev pub chain_of : Space → List ℕ → ℕ → Result (List ℕ) SectorFault
chain_of space sectors after =
    if after == END_OF_CHAIN then gathered space (chain_size space sectors) sectors
    else Err (leaves space sectors after)

-- the bytes of a whole chain with this first sector
abbrev pub WholeChain : Space → ℕ → Result (List ℕ) SectorFault → Type 0
WholeChain space first result =
    OfChain (next_in space) first (faults.Loop space.table first) (chain_of space) result

-- the sectors that a size needs follow one another, the first of them being this one
abbrev pub is_run : ℕ → ℕ → ℕ → List ℕ → Bool
is_run unit size first [] = size == 0
is_run unit size first (sector ∷ sectors) =
    (size == 0) || ((sector == first) && is_run unit (size - unit) (first + 1) sectors)

-- they do, and all bytes of that size are in the area: then no byte need be copied
pub record IsAdjacent (space : Space) (size : ℕ) (sectors : List ℕ) : Type 0 where
  pub first : ℕ
  pub begins : slice_get sectors 0 ≡ Some first
  pub run : is_run space.sector_size size first sectors ≡ true
  pub room : first * space.sector_size + size ≤ length space.area
