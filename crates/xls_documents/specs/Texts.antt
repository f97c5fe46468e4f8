-- The printed texts of refusals.
use Rattle.std.specs.Prelude.{ℕ, List, codes}
use Rattle.xls_container.specs.Texts as files
use Rattle.xls_vba.specs.CompressionErrors.{ovba_error_text}
use Rattle.xls_vba.specs.Errors.{vba_error_text}
use Rattle.xls_documents.specs.declared.fault.ProjectFault.{ProjectFault}
use Rattle.xls_documents.specs.declared.fault.ProjectFault.TheVariants as faults

abbrev pub fault_text : ProjectFault → List ℕ
fault_text (faults.File fault) = files.fault_text fault
fault_text (faults.Compression error) = ovba_error_text error
fault_text (faults.Directory error) = vba_error_text error
fault_text faults.Memory = codes "Out of memory"
