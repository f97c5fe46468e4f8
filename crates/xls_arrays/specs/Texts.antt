-- The printed texts of refusals.
use Rattle.std.specs.Prelude.{ℕ, List, [], ◌++◌, codes}
use Rattle.std.specs.Fmt.{decimal}
use Rattle.xls_record.specs.ErrorText.{error_text}
use Rattle.xls_sectors.specs.Errors.{fault_text}
use Rattle.xls_compound.specs.DirectoryErrors as directory
use Rattle.xls_container.specs.Texts as files
use Rattle.xls_container.specs.declared.fault.FileFault.TheVariants as faults
use Rattle.xls_arrays.specs.declared.refusal.Chain.{Chain}
use Rattle.xls_arrays.specs.declared.refusal.Chain.TheVariants as chains
use Rattle.xls_arrays.specs.declared.refusal.Refusal.{Refusal}
use Rattle.xls_arrays.specs.declared.refusal.Refusal.TheVariants as refusals

-- what stands before the fault of a chain
abbrev pub chain_text : Chain → List ℕ
chain_text chains.Tables = []
chain_text chains.Directory = codes "The directory: "
chain_text chains.MiniFat = codes "The mini FAT: "
chain_text chains.MiniStream = codes "The mini stream: "
chain_text chains.Workbook = codes "The workbook's stream: "

abbrev pub refusal_text : Refusal → List ℕ
refusal_text refusals.Memory = codes "Out of memory"
refusal_text refusals.TooShort = codes "An array is too short"
refusal_text (refusals.NoSheet index) = codes "The workbook has no sheet " ++ decimal index
refusal_text refusals.Obfuscated = codes "The records are obfuscated with a password (XOR)"
refusal_text (refusals.Stream error) = error_text error
refusal_text (refusals.Kind kind) = files.fault_text (faults.Kind kind)
refusal_text refusals.NoWorkbook = files.fault_text faults.NoWorkbook
refusal_text (refusals.Chain chain fault) =
    codes "A damaged compound file: " ++ (chain_text chain ++ fault_text fault)
refusal_text (refusals.Directory fault) = codes "A damaged compound file: " ++ directory.fault_text fault
