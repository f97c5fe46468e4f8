-- The refusals of the crates below.
use Rattle.xls_compound.specs.declared.error.CompoundError.{CompoundError}
use Rattle.xls_compound.specs.declared.error.CompoundError.TheVariants as compounds
use Rattle.xls_container.specs.declared.fault.FileFault.{FileFault}
use Rattle.xls_container.specs.declared.fault.FileFault.TheVariants as files
use Rattle.xls_record.specs.declared.error.XlsError.{XlsError}
use Rattle.xls_record.specs.declared.error.XlsError.TheVariants as errors
use Rattle.xls_arrays.specs.declared.refusal.Chain.TheVariants as chains
use Rattle.xls_arrays.specs.declared.refusal.Refusal.{Refusal}
use Rattle.xls_arrays.specs.declared.refusal.Refusal.TheVariants as refusals

abbrev pub refusal_of_stream : XlsError → Refusal
refusal_of_stream errors.Memory = refusals.Memory
refusal_of_stream error = refusals.Stream error

abbrev pub refusal_of_compound : CompoundError → Refusal
refusal_of_compound (compounds.Tables fault) = refusals.Chain chains.Tables fault
refusal_of_compound (compounds.DirectoryChain fault) = refusals.Chain chains.Directory fault
refusal_of_compound (compounds.Directory fault) = refusals.Directory fault
refusal_of_compound (compounds.MiniFat fault) = refusals.Chain chains.MiniFat fault
refusal_of_compound (compounds.MiniStream fault) = refusals.Chain chains.MiniStream fault
refusal_of_compound (compounds.Stream name fault) = refusals.Chain chains.Workbook fault
refusal_of_compound compounds.Memory = refusals.Memory

abbrev pub refusal_of_file : FileFault → Refusal
refusal_of_file (files.Kind kind) = refusals.Kind kind
refusal_of_file (files.Compound error) = refusal_of_compound error
refusal_of_file files.NoWorkbook = refusals.NoWorkbook
refusal_of_file files.Memory = refusals.Memory
