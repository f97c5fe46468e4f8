-- Why the source of a module is refused.
use Rattle.std.proofs.Common.{ℕ, List, Some, Result, Ok, Err, IfErr}
use Rattle.xls_vba.specs.Container.{FailsIn}
use Rattle.xls_vba.specs.Modules.{Mod}
use Rattle.xls_vba.specs.Source.{IsSourceFault}
use Rattle.xls_vba.specs.declared.compression_error.OvbaError.{OvbaError}
use Rattle.xls_vba.specs.declared.compression_error.OvbaError.TheVariants as ovba
use Rattle.xls_macros.specs.Macros.{Macros, RefusesModule, RefusesSource, module_path, of_compression}
use Rattle.xls_macros.specs.Streams.{HasStreamAt}
use Rattle.xls_macros.specs.declared.fault.ModuleFault.{ModuleFault}
use Rattle.xls_macros.specs.declared.fault.ModuleFault.TheVariants as faults

pub source_refused : (stream : List ℕ) (offset : ℕ) (e : OvbaError) → FailsIn e (IsSourceFault stream offset)
    → RefusesSource stream offset (of_compression e)
source_refused stream offset ovba.Memory h = tt
source_refused stream offset (ovba.Cut part at expected found) h = ((λ e. cc e), h)
source_refused stream offset (ovba.ContainerSignature found) h = ((λ e. cc e), h)
source_refused stream offset (ovba.ChunkSignature at found) h = ((λ e. cc e), h)
source_refused stream offset (ovba.RawChunkSize at found) h = ((λ e. cc e), h)
source_refused stream offset (ovba.BeforeChunk at away input) h = ((λ e. cc e), h)
source_refused stream offset (ovba.ChunkTooLong at) h = ((λ e. cc e), h)
source_refused stream offset (ovba.OffsetPastEnd begin size) h = ((λ e. cc e), h)

-- by the bytes of its stream
pub module_refused : {X : Type 0} (macros : Macros) (m : Mod) (stream : List ℕ) (r : Result X ModuleFault)
    → HasStreamAt macros.compound (module_path macros m) (Some stream) → IfErr r (RefusesSource stream m.text_offset)
    → IfErr r (RefusesModule macros m)
module_refused macros m stream (Ok source) has h = tt
module_refused macros m stream (Err (faults.NoStream name)) has h = absurd h
module_refused macros m stream (Err (faults.Stream error)) has h = absurd h
module_refused macros m stream (Err (faults.Compression error)) has h = (stream, has, h)
module_refused macros m stream (Err faults.Memory) has h = tt
