-- That numbers tell a refusal.
use Rattle.std.specs.Prelude.{◌≡◌, ◌<◌, ◌^◌, Some, None}
use Rattle.xls_text.specs.declared.error.CfbError.TheVariants as pages
use Rattle.xls_record.specs.declared.error.XlsError.{XlsError}
use Rattle.xls_record.specs.declared.error.XlsError.TheVariants as errors
use Rattle.xls_sectors.specs.declared.error.SectorFault.{SectorFault}
use Rattle.xls_sectors.specs.declared.error.SectorFault.TheVariants as sectors
use Rattle.xls_compound.specs.declared.fault.DirectoryFault.{DirectoryFault}
use Rattle.xls_compound.specs.declared.fault.DirectoryFault.TheVariants as entries
use Rattle.xls_arrays.specs.Faults.{fault_numbered}
use Rattle.xls_arrays.specs.Telling.{refusal_of, sentence}
use Rattle.xls_arrays.specs.Texts.{refusal_text}
use Rattle.xls_arrays.specs.declared.refusal.Refusal.{Refusal}
use Rattle.xls_arrays.specs.declared.refusal.Refusal.TheVariants as refusals

-- the numbers of a fault are those of its fields: 8, 16 or 32 bits. Of a stream, no fault is out of memory, and none
-- cites a name
abbrev pub FitsError : XlsError → Type 0
FitsError errors.Memory = ⊥
FitsError (errors.WorksheetNotFound name) = ⊥
FitsError (errors.Cfb (pages.CodePageNotFound page)) = page < 2 ^ 16
FitsError (errors.Unrecognized typ val) = val < 2 ^ 8
FitsError (errors.Etpg number) = number < 2 ^ 8
FitsError (errors.InvalidFormat ifmt) = ifmt < 2 ^ 16
FitsError other = Unit {0}

abbrev pub FitsSector : SectorFault → Type 0
FitsSector (sectors.SectorShift found) = found < 2 ^ 16
FitsSector (sectors.MiniSectorShift found) = found < 2 ^ 16
FitsSector (sectors.Loop table first) = first < 2 ^ 32
FitsSector (sectors.Leaves table (Some after) number) = (after < 2 ^ 32) × (number < 2 ^ 32)
FitsSector (sectors.Leaves table None number) = number < 2 ^ 32
FitsSector (sectors.Short table first expected found) = first < 2 ^ 32
FitsSector (sectors.Cut table sector expected found) = sector < 2 ^ 32
FitsSector (sectors.FatCut sector expected found) = sector < 2 ^ 32
FitsSector other = Unit {0}

abbrev pub FitsDirectory : DirectoryFault → Type 0
FitsDirectory entries.NoRoot = Unit {0}
FitsDirectory (entries.Missing number) = number < 2 ^ 32
FitsDirectory (entries.Twice number) = number < 2 ^ 32
FitsDirectory (entries.Kind number kind) = (number < 2 ^ 32) × (kind < 2 ^ 8)
FitsDirectory (entries.NameSize number size) = (number < 2 ^ 32) × (size < 2 ^ 16)

abbrev pub FitsRefusal : Refusal → Type 0
FitsRefusal (refusals.Stream error) = FitsError error
FitsRefusal (refusals.Chain chain fault) = FitsSector fault
FitsRefusal (refusals.Directory fault) = FitsDirectory fault
FitsRefusal other = Unit {0}

-- the numbers of a refusal tell it, and so its sentence
abbrev pub RefusalsAreReported : Type 0
RefusalsAreReported =
    (r : Refusal) → FitsRefusal r → (refusal_of (fault_numbered r) ≡ Some r) × (sentence (fault_numbered r) ≡ refusal_text r)
