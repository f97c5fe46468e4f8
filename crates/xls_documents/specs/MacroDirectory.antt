-- The directory of a file's macro project ([MS-OVBA] dir Stream): the first stream named `dir` in a storage named `VBA`.
use Rattle.std.specs.Prelude.{◌≡◌, ◌≢◌, ◌⊎◌, ◌&&◌, ◌-◌, ◌<◌, ℕ, List, [], ◌∷◌, length, drop, codes, Bool, true, false, Option, Some, None, Ok}
use Rattle.std.specs.List.{slice_get}
use Rattle.std.specs.Str.{str_eq_ignore_ascii_case}
use Rattle.xls_compound.specs.Items.{Item, IsPath}
use Rattle.xls_compound.specs.Directory.{Listing}
use Rattle.xls_compound.specs.Compound.{Compound, ItemBytes, RefusesItem}
use Rattle.xls_compound.specs.Entries.{Entry, IsItem, entry_at}
use Rattle.xls_compound.specs.declared.error.CompoundError.TheVariants as errors
use Rattle.xls_container.specs.Files.{Container, compound_file, bare_stream}
use Rattle.xls_container.specs.declared.fault.FileFault.{FileFault}
use Rattle.xls_container.specs.declared.fault.FileFault.TheVariants as files
use Rattle.xls_vba.specs.Container as compressed
use Rattle.xls_vba.specs.declared.compression_error.OvbaError.{OvbaError}
use Rattle.xls_vba.specs.declared.compression_error.OvbaError.TheVariants as ovba
use Rattle.xls_vba.specs.Directory as directories
use Rattle.xls_vba.specs.Directory.{Project}
use Rattle.xls_vba.specs.declared.error.VbaError.{VbaError}
use Rattle.xls_vba.specs.declared.error.VbaError.TheVariants as vba
use Rattle.xls_documents.specs.declared.fault.ProjectFault.{ProjectFault}
use Rattle.xls_documents.specs.declared.fault.ProjectFault.TheVariants as faults

-- a storage and a stream of these names, in either case
abbrev pub are_directory_names : List (List ℕ) → Bool
are_directory_names (storage ∷ name ∷ []) =
    str_eq_ignore_ascii_case storage (codes "VBA") && str_eq_ignore_ascii_case name (codes "dir")
are_directory_names other = false

-- by the last two names of a path
abbrev pub is_directory_path : List (List ℕ) → Bool
is_directory_path path = are_directory_names (drop (length path - 2) path)

-- whether a stream is a directory, by its path; a storage is none
abbrev pub IsDirectoryTest : Entry → Bool → Bool → Type 0
IsDirectoryTest entry true answer = (path : List (List ℕ)) × IsPath entry.listing.items entry.place path × (answer ≡ is_directory_path path)
IsDirectoryTest entry false answer = answer ≡ false

-- whether an entry is a directory, by the item at its place
abbrev pub TestsAs : Entry → Bool → Type 0
TestsAs entry answer = (item : Item) → IsItem entry item → IsDirectoryTest entry item.is_stream answer

-- the first directory is that of the project
pub record IsFirstDirectory (listing : Listing) (place : ℕ) : Type 0 where
  pub within : place < length listing.items
  pub is_directory : TestsAs (entry_at listing place) true
  pub is_first : (k : ℕ) → k < place → TestsAs (entry_at listing k) false

abbrev pub HasNoDirectory : Listing → Type 0
HasNoDirectory listing = (k : ℕ) → k < length listing.items → TestsAs (entry_at listing k) false

pub record IsDirectoryItem (compound : Compound) (item : Item) : Type 0 where
  pub place : ℕ
  pub is_first : IsFirstDirectory compound.listing place
  pub is_item : slice_get compound.listing.items place ≡ Some item

-- the bytes of the directory, compressed as they stand in the file
abbrev pub MacroDirectoryBytes : Compound → List ℕ → Type 0
MacroDirectoryBytes compound bytes = (item : Item) × IsDirectoryItem compound item × ItemBytes compound item (Ok bytes)

-- the project that compressed bytes say
pub record IsProjectFrom (bytes : List ℕ) (project : Project) : Type 0 where
  pub plain : List ℕ
  pub decompresses : compressed.Decompresses bytes plain
  pub is_directory : directories.IsDirectory plain project

-- the project of a compound file, if it has one
abbrev pub IsProjectOf : Compound → Option Project → Type 0
IsProjectOf compound None = HasNoDirectory compound.listing
IsProjectOf compound (Some project) = (bytes : List ℕ) × MacroDirectoryBytes compound bytes × IsProjectFrom bytes project

-- a workbook's stream alone has no project
abbrev pub HasProject : Container → Option Project → Type 0
HasProject (compound_file compound) found = IsProjectOf compound found
HasProject (bare_stream stream) found = found ≡ None

-- ---- refusals

abbrev pub of_file : FileFault → ProjectFault
of_file files.Memory = faults.Memory
of_file other = faults.File other

abbrev pub of_compression : OvbaError → ProjectFault
of_compression ovba.Memory = faults.Memory
of_compression other = faults.Compression other

abbrev pub of_directory : VbaError → ProjectFault
of_directory vba.Memory = faults.Memory
of_directory other = faults.Directory other

-- why compressed bytes are refused: the first fault of the compression, or of the directory; unless memory ran out
abbrev pub RefusesProjectFrom : List ℕ → ProjectFault → Type 0
RefusesProjectFrom bytes faults.Memory = Unit {0}
RefusesProjectFrom bytes (faults.File fault) = ⊥
RefusesProjectFrom bytes (faults.Compression error) = (error ≢ ovba.Memory) × compressed.IsContainerFault bytes error
RefusesProjectFrom bytes (faults.Directory error) =
    (plain : List ℕ) × compressed.Decompresses bytes plain × (error ≢ vba.Memory) × directories.IsProjectFault plain error

-- why the chain of the directory is refused: its first fault; unless memory ran out
abbrev pub RefusesDirectory : Compound → ProjectFault → Type 0
RefusesDirectory compound faults.Memory = Unit {0}
RefusesDirectory compound (faults.File (files.Compound error)) =
    (item : Item) × IsDirectoryItem compound item × (error ≢ errors.Memory) × RefusesItem compound item error
RefusesDirectory compound other = ⊥

-- the first of these
abbrev pub RefusesProjectOf : Compound → ProjectFault → Type 0
RefusesProjectOf compound fault = RefusesDirectory compound fault
    ⊎ ((bytes : List ℕ) × MacroDirectoryBytes compound bytes × RefusesProjectFrom bytes fault)

abbrev pub RefusesProject : Container → ProjectFault → Type 0
RefusesProject (compound_file compound) fault = RefusesProjectOf compound fault
RefusesProject (bare_stream stream) fault = ⊥
