-- The printed texts of refusals.
use Rattle.std.specs.Prelude.{ℕ, List, ◌++◌, codes}
use Rattle.std.specs.String.{string_bytes}
use Rattle.xls_sectors.specs.Errors.{fault_text}
use Rattle.xls_compound.specs.DirectoryErrors as directory
use Rattle.xls_compound.specs.declared.error.CompoundError.{CompoundError}
use Rattle.xls_compound.specs.declared.error.CompoundError.TheVariants as errors

abbrev pub error_text : CompoundError → List ℕ
error_text (errors.Tables fault) = fault_text fault
error_text (errors.DirectoryChain fault) = codes "The directory: " ++ fault_text fault
error_text (errors.Directory fault) = directory.fault_text fault
error_text (errors.MiniFat fault) = codes "The mini FAT: " ++ fault_text fault
error_text (errors.MiniStream fault) = codes "The mini stream: " ++ fault_text fault
error_text (errors.Stream name fault) = codes "Stream " ++ (string_bytes name ++ (codes ": " ++ fault_text fault))
error_text errors.Memory = codes "Out of memory"
