-- The printed texts of refusals.
use Rattle.std.specs.Prelude.{ℕ, List, ◌++◌, codes}
use Rattle.std.specs.Fmt.{decimal}
use Rattle.xls_compound.specs.declared.fault.DirectoryFault.{DirectoryFault}
use Rattle.xls_compound.specs.declared.fault.DirectoryFault.TheVariants.{NoRoot, Missing, Twice, Kind, NameSize}
use Rattle.xls_compound.specs.declared.fault.DirectoryError.{DirectoryError}
use Rattle.xls_compound.specs.declared.fault.DirectoryError.TheVariants as errors

abbrev pub fault_text : DirectoryFault → List ℕ
fault_text NoRoot = codes "The directory has no root entry"
fault_text (Missing number) = codes "The directory has no entry " ++ (decimal number ++ codes ", which another leads to")
fault_text (Twice number) = codes "Two ways lead to directory entry " ++ decimal number
fault_text (Kind number kind) =
    codes "Directory entry " ++ (decimal number ++ (codes " has the unknown type " ++ decimal kind))
fault_text (NameSize number size) = codes "The name of directory entry "
    ++ (decimal number ++ (codes " has the wrong length " ++ decimal size))

abbrev pub error_text : DirectoryError → List ℕ
error_text (errors.Fault fault) = fault_text fault
error_text errors.Memory = codes "Out of memory"
