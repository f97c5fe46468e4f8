-- A macro project in a compound file ([MS-OVBA] 2.2): the storage that holds its directory `dir` holds the streams of its
-- modules as well, and the storage above it the stream `PROJECT`.
use Rattle.std.specs.Prelude.{◌≡◌, ◌≢◌, ◌⊎◌, ◌-◌, ℕ, List, [], ◌∷◌, ◌++◌, length, take, codes, Bool, true, false, Option, Some, None}
use Rattle.std.specs.String.{string_bytes}
use Rattle.xls_compound.specs.Items.{IsPath}
use Rattle.xls_compound.specs.Compound.{Compound}
use Rattle.xls_compound.specs.declared.error.CompoundError.{CompoundError}
use Rattle.xls_compound.specs.declared.error.CompoundError.TheVariants as errors
use Rattle.xls_container.specs.Files.{Container, compound_file, bare_stream}
use Rattle.xls_documents.specs.MacroDirectory.{HasNoDirectory, IsFirstDirectory, MacroDirectoryBytes}
use Rattle.xls_text.specs.declared.encoding.XlsEncoding.{XlsEncoding}
use Rattle.xls_vba.specs.Container.{Decompresses}
use Rattle.xls_vba.specs.Directory.{Project, IsDirectory}
use Rattle.xls_vba.specs.Modules.{Mod}
use Rattle.xls_vba.specs.Source.{IsSourceFault}
use Rattle.xls_vba.specs.declared.compression_error.OvbaError.{OvbaError}
use Rattle.xls_vba.specs.declared.compression_error.OvbaError.TheVariants as ovba
use Rattle.xls_macros.specs.Kinds.{Named, entries_in}
use Rattle.xls_macros.specs.Page.{HasPage}
use Rattle.xls_macros.specs.Sources.{IsLinedSource, listing_text}
use Rattle.xls_macros.specs.Streams.{HasStreamAt, RefusesStreamAt}
use Rattle.xls_macros.specs.declared.fault.ModuleFault.{ModuleFault}
use Rattle.xls_macros.specs.declared.fault.ModuleFault.TheVariants as faults

pub record Macros : Type 0 where
  pub compound : Compound
  -- the names of the storages that hold the directory, the outermost first
  pub storages : List (List ℕ)
  pub project : Project
  pub page : XlsEncoding
  -- the modules that the stream `PROJECT` names
  pub named : List Named
  -- why that stream isn't read
  pub damage : Option CompoundError

abbrev pub all_but_last : List (List ℕ) → List (List ℕ)
all_but_last names = take (length names - 1) names

-- ---- the stream PROJECT

abbrev pub listing_path : List (List ℕ) → List (List ℕ)
listing_path storages = all_but_last storages ++ codes "PROJECT" ∷ []

-- what it names; nothing where it isn't there, or its chain has a fault
abbrev pub ReadsListing : Compound → List (List ℕ) → XlsEncoding → List Named → Option CompoundError → Type 0
ReadsListing compound path page named None =
    ((bytes : List ℕ) × HasStreamAt compound path (Some bytes) × (named ≡ entries_in (listing_text page bytes)))
    ⊎ (HasStreamAt compound path None × (named ≡ []))
ReadsListing compound path page named (Some error) = RefusesStreamAt compound path error × (error ≢ errors.Memory) × (named ≡ [])

-- ---- the whole

-- what compressed bytes of a directory say
pub record SaysProject (bytes : List ℕ) (project : Project) (page : XlsEncoding) : Type 0 where
  pub plain : List ℕ
  pub decompresses : Decompresses bytes plain
  pub is_directory : IsDirectory plain project
  pub has_page : HasPage plain page

-- the storages that hold the first directory
pub record AreStorages (compound : Compound) (storages : List (List ℕ)) : Type 0 where
  pub place : ℕ
  pub is_first : IsFirstDirectory compound.listing place
  pub path : List (List ℕ)
  pub is_path : IsPath compound.listing.items place path
  pub holds : storages ≡ all_but_last path

pub record AreMacros (compound : Compound) (macros : Macros) : Type 0 where
  pub same : macros.compound ≡ compound
  pub storages : AreStorages compound macros.storages
  pub bytes : List ℕ
  pub has_bytes : MacroDirectoryBytes compound bytes
  pub says : SaysProject bytes macros.project macros.page
  pub listing : ReadsListing compound (listing_path macros.storages) macros.page macros.named macros.damage

abbrev pub AreMacrosOf : Compound → Option Macros → Type 0
AreMacrosOf compound None = HasNoDirectory compound.listing
AreMacrosOf compound (Some macros) = AreMacros compound macros

-- a workbook's stream alone has no project
abbrev pub HasMacros : Container → Option Macros → Type 0
HasMacros (compound_file compound) found = AreMacrosOf compound found
HasMacros (bare_stream stream) found = found ≡ None

-- ---- sources

abbrev pub module_path : Macros → Mod → List (List ℕ)
module_path macros m = macros.storages ++ m.stream_name ∷ []

-- the source of a module
abbrev pub IsModuleSource : Macros → Mod → List ℕ → Type 0
IsModuleSource macros m source = (stream : List ℕ) × HasStreamAt macros.compound (module_path macros m) (Some stream)
    × IsLinedSource stream m.text_offset macros.page source

abbrev pub is_memory : ModuleFault → Bool
is_memory faults.Memory = true
is_memory other = false

-- the refusal by a fault of the compression
abbrev pub of_compression : OvbaError → ModuleFault
of_compression ovba.Memory = faults.Memory
of_compression other = faults.Compression other

-- why the bytes of its stream give none: it begins past their end, or its compression has a fault; unless memory ran out
abbrev pub RefusesSource : List ℕ → ℕ → ModuleFault → Type 0
RefusesSource stream offset (faults.NoStream name) = ⊥
RefusesSource stream offset (faults.Stream error) = ⊥
RefusesSource stream offset (faults.Compression error) = (error ≢ ovba.Memory) × IsSourceFault stream offset error
RefusesSource stream offset faults.Memory = Unit {0}

-- why there is none: its stream isn't there, or has a fault, or its compression has; unless memory ran out
abbrev pub RefusesModule : Macros → Mod → ModuleFault → Type 0
RefusesModule macros m (faults.NoStream name) =
    (string_bytes name ≡ m.stream_name) × HasStreamAt macros.compound (module_path macros m) None
RefusesModule macros m (faults.Stream error) = RefusesStreamAt macros.compound (module_path macros m) error × (error ≢ errors.Memory)
RefusesModule macros m (faults.Compression error) = (stream : List ℕ) × HasStreamAt macros.compound (module_path macros m) (Some stream)
    × RefusesSource stream m.text_offset (faults.Compression error)
RefusesModule macros m faults.Memory = Unit {0}
