-- The property streams of a file ([MS-OLEPS]).
use Rattle.std.specs.Prelude.{◌≡◌, ◌≢◌, ◌⊎◌, ℕ, List, [], ◌∷◌, codes, Option, Some, None, Ok, true}
use Rattle.std.specs.List.{slice_get}
use Rattle.xls_compound.specs.Items.{Item, find_from}
use Rattle.xls_compound.specs.Compound.{Compound, ItemBytes, RefusesItem}
use Rattle.xls_compound.specs.declared.error.CompoundError.TheVariants as errors
use Rattle.xls_container.specs.Files.{Container, compound_file, bare_stream}
use Rattle.xls_container.specs.declared.fault.FileFault.{FileFault}
use Rattle.xls_container.specs.declared.fault.FileFault.TheVariants as faults
use Rattle.xls_props.specs.Properties.{IsProperties}
use Rattle.xls_props.specs.declared.properties.WorkbookProperties.{WorkbookProperties}

-- the names of the two streams
abbrev pub SUMMARY : List ℕ
SUMMARY = 0x05 ∷ codes "SummaryInformation"

abbrev pub DOCUMENT : List ℕ
DOCUMENT = 0x05 ∷ codes "DocumentSummaryInformation"

-- the first of this name in the root is a stream
pub record IsStreamNamed (compound : Compound) (name : List ℕ) (item : Item) : Type 0 where
  pub place : ℕ
  pub is_found : find_from compound.listing.items None (name ∷ []) ≡ Some place
  pub is_item : slice_get compound.listing.items place ≡ Some item
  pub is_stream : item.is_stream ≡ true

-- the bytes of the stream of this name, or none where there is no such stream
abbrev pub HasStream : Compound → List ℕ → Option (List ℕ) → Type 0
HasStream compound name None = (item : Item) → IsStreamNamed compound name item → ⊥
HasStream compound name (Some bytes) = (item : Item) × IsStreamNamed compound name item × ItemBytes compound item (Ok bytes)

-- why its bytes are refused: the first fault of its chain; unless memory ran out
abbrev pub RefusesStream : Compound → List ℕ → FileFault → Type 0
RefusesStream compound name faults.Memory = Unit {0}
RefusesStream compound name (faults.Compound error) =
    (item : Item) × IsStreamNamed compound name item × (error ≢ errors.Memory) × RefusesItem compound item error
RefusesStream compound name other = ⊥

-- what is read of the bytes of the two streams: nothing where neither is there
abbrev pub ReadsAs : Option (List ℕ) → Option (List ℕ) → Option WorkbookProperties → Type 0
ReadsAs None None found = found ≡ None
ReadsAs summary document (Some properties) = IsProperties summary document properties
ReadsAs summary document None = ⊥

-- the properties in a compound file
pub record AreProperties (compound : Compound) (found : Option WorkbookProperties) : Type 0 where
  pub summary : Option (List ℕ)
  pub document : Option (List ℕ)
  pub is_summary : HasStream compound SUMMARY summary
  pub is_document : HasStream compound DOCUMENT document
  pub reads : ReadsAs summary document found

-- a fault of the first, or of the second where the first is whole or isn't there
abbrev pub RefusesProperties : Compound → FileFault → Type 0
RefusesProperties compound fault = RefusesStream compound SUMMARY fault
    ⊎ ((summary : Option (List ℕ)) × HasStream compound SUMMARY summary × RefusesStream compound DOCUMENT fault)

-- a workbook's stream alone has no properties
abbrev pub HasProperties : Container → Option WorkbookProperties → Type 0
HasProperties (compound_file compound) found = AreProperties compound found
HasProperties (bare_stream stream) found = found ≡ None

abbrev pub RefusesInFile : Container → FileFault → Type 0
RefusesInFile (compound_file compound) fault = RefusesProperties compound fault
RefusesInFile (bare_stream stream) fault = ⊥
