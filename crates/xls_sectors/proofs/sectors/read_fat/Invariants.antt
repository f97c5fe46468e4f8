use Rattle.std.proofs.Common.{◌≡◌, ◌≤◌, drop, vec_len}
use Rattle.xls_sectors.specs.Tables.{fat_numbers, fat_up_to}
use Rattle.xls_sectors.proofs.TableLemmas.{with_numbers}
use Rattle.xls_sectors.proofs.sectors.read_fat.Given as goal

-- the numbers so far, and those of the sectors that are left
abbrev pub invariant-sectors : goal.invariant-sectors
invariant-sectors l = (vec_len l.fat ≤ l.most)
    × (with_numbers l.most l.fat.items (fat_numbers l.size l.area (drop l.sector-index l.listed)) ≡ fat_up_to l.most l.size l.area l.listed)
