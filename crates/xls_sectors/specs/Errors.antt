-- The printed texts of refusals.
use Rattle.std.specs.Prelude.{ℕ, true, List, ◌++◌, codes, Option, Some, None}
use Rattle.std.specs.Fmt.{decimal, digits}
use Rattle.xls_sectors.specs.declared.error.Table.{Table}
use Rattle.xls_sectors.specs.declared.error.Table.TheVariants.{Difat, Fat, MiniFat}
use Rattle.xls_sectors.specs.declared.error.SectorFault.{SectorFault}
use Rattle.xls_sectors.specs.declared.error.SectorFault.TheVariants.{NotCompound, HeaderCut, SectorShift, MiniSectorShift, Loop, Leaves, Short, Cut, FatCut}
use Rattle.xls_sectors.specs.declared.error.SectorError.{SectorError}
use Rattle.xls_sectors.specs.declared.error.SectorError.TheVariants.{Fault, Memory}

abbrev pub table_text : Table → List ℕ
table_text Difat = codes "DIFAT"
table_text Fat = codes "FAT"
table_text MiniFat = codes "mini FAT"

-- a number in upper hexadecimal, without leading zeros
abbrev pub upper_hex : ℕ → List ℕ
upper_hex n = digits 16 true n

-- the bytes that were expected and those that were found
abbrev pub counts_text : ℕ → ℕ → List ℕ
counts_text expected found =
    codes "expecting " ++ (decimal expected ++ (codes " bytes, found " ++ decimal found))

-- where a chain goes that leaves the table
abbrev pub leaves_text : Table → Option ℕ → ℕ → List ℕ
leaves_text table (Some sector) number =
    codes "After sector " ++ (decimal sector ++ (codes " of the " ++ (table_text table
    ++ (codes " comes " ++ (upper_hex number ++ codes ", which the file doesn't have")))))
leaves_text table None number =
    codes "A chain of the " ++ (table_text table
    ++ (codes " begins with " ++ (upper_hex number ++ codes ", which the file doesn't have")))

-- what a fault prints: sectors and sizes in decimal, other numbers in upper hexadecimal
abbrev pub fault_text : SectorFault → List ℕ
fault_text NotCompound = codes "Not a compound file: another signature"
fault_text (HeaderCut found) =
    codes "The header is cut: expecting 512 bytes, found " ++ decimal found
fault_text (SectorShift found) =
    codes "Invalid sector shift: expecting 9 or C, found " ++ upper_hex found
fault_text (MiniSectorShift found) =
    codes "Invalid mini sector shift: expecting 6, found " ++ upper_hex found
fault_text (Loop table first) =
    codes "The chain from sector " ++ (decimal first ++ (codes " of the " ++ (table_text table ++ codes " has a loop")))
fault_text (Leaves table after number) = leaves_text table after number
fault_text (Short table first expected found) =
    codes "The chain from sector " ++ (decimal first ++ (codes " of the " ++ (table_text table
    ++ (codes " is short: " ++ counts_text expected found))))
fault_text (Cut table sector expected found) =
    codes "Sector " ++ (decimal sector ++ (codes " of the " ++ (table_text table
    ++ (codes " is cut: " ++ counts_text expected found))))
fault_text (FatCut sector expected found) =
    codes "FAT sector " ++ (decimal sector ++ (codes " is cut: " ++ counts_text expected found))

abbrev pub error_text : SectorError → List ℕ
error_text (Fault fault) = fault_text fault
error_text Memory = codes "Out of memory"
