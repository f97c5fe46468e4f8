-- The printed texts of refusals.
use Rattle.std.specs.Prelude.{ℕ, List, ◌++◌, codes}
use Rattle.std.specs.String.{string_bytes}
use Rattle.xls_compound.specs.Errors.{error_text}
use Rattle.xls_vba.specs.CompressionErrors.{ovba_error_text}
use Rattle.xls_macros.specs.declared.fault.ModuleFault.{ModuleFault}
use Rattle.xls_macros.specs.declared.fault.ModuleFault.TheVariants as faults

abbrev pub fault_text : ModuleFault → List ℕ
fault_text (faults.NoStream name) = codes "the project has no stream of its name, " ++ string_bytes name
fault_text (faults.Stream error) = error_text error
fault_text (faults.Compression error) = ovba_error_text error
fault_text faults.Memory = codes "Out of memory"
