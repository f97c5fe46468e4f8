use Rattle.std.proofs.Common.{◌≡◌, ◌≤◌, ◌-◌, ℕ, List, length}
use Rattle.xls_bytes.specs.Numbers.{u32s_of}
use Rattle.xls_sectors.specs.Chains.{Path, last_of}
use Rattle.xls_sectors.specs.Tables.{next_difat, listed_in}
use Rattle.xls_sectors.proofs.sectors.list_fat.Given as goal

-- the DIFAT sectors so far, and what they list
abbrev pub invariant-sectors : goal.invariant-sectors
invariant-sectors l = (sectors : List ℕ) × Path (next_difat l.size l.area) l.first sectors l.number
    × (length sectors ≡ l.read) × (l.read ≤ l.whole) × (last_of sectors ≡ l.last)
    × (l.listed.items ≡ listed_in l.size l.area (u32s_of l.block) sectors)

abbrev pub decreases-sectors : goal.decreases-sectors
decreases-sectors l = l.whole - l.read
