-- What a file holds: a compound file with the stream of a workbook, or that stream alone.
use Rattle.std.specs.Prelude.{◌≡◌, ◌≢◌, ◌⊎◌, ℕ, List, Option, Some, None, Ok, true, false}
use Rattle.std.specs.List.{slice_get}
use Rattle.xls_compound.specs.Items.{Item, workbook}
use Rattle.xls_compound.specs.Compound.{Compound, HoldsCompound, Refuses, ItemBytes, LiesAdjacent, RefusesItem}
use Rattle.xls_compound.specs.declared.error.CompoundError.{CompoundError}
use Rattle.xls_compound.specs.declared.error.CompoundError.TheVariants as errors
use Rattle.xls_container.specs.declared.fault.FileFault.{FileFault}
use Rattle.xls_container.specs.declared.fault.FileFault.TheVariants as faults
use Rattle.xls_container.specs.Kinds.{is_compound, is_bare, kind_of}

-- an opened file: a compound file, or the bytes of a bare workbook stream
pub data Container : Type 0 where
  compound_file : Compound → Container
  bare_stream : List ℕ → Container

abbrev pub compound_in : Container → Option Compound
compound_in (compound_file compound) = Some compound
compound_in (bare_stream bytes) = None

-- a file is opened by its first bytes
abbrev pub OpensContainer : List ℕ → Container → Type 0
OpensContainer file (compound_file compound) = (is_compound file ≡ true) × HoldsCompound file compound
OpensContainer file (bare_stream bytes) = (is_compound file ≡ false) × (is_bare file ≡ true) × (bytes ≡ file)

-- the entry of a workbook's stream: `Workbook`, or else `Book`, in the root
pub record IsWorkbookItem (compound : Compound) (item : Item) : Type 0 where
  pub place : ℕ
  pub is_found : workbook compound.listing.items ≡ Some place
  pub is_item : slice_get compound.listing.items place ≡ Some item

-- the workbook's bytes in an opened file
abbrev pub HasWorkbook : Container → List ℕ → Type 0
HasWorkbook (compound_file compound) bytes = (item : Item) × IsWorkbookItem compound item × ItemBytes compound item (Ok bytes)
HasWorkbook (bare_stream stream) bytes = bytes ≡ stream

-- the workbook's bytes stand together in the file
abbrev pub LiesTogether : Container → Type 0
LiesTogether (compound_file compound) = (item : Item) × IsWorkbookItem compound item × LiesAdjacent compound item
LiesTogether (bare_stream stream) = Unit {0}

-- the workbook's bytes in a file
pub record WorkbookBytes (file bytes : List ℕ) : Type 0 where
  pub container : Container
  pub is_opened : OpensContainer file container
  pub has : HasWorkbook container bytes

-- ---- refusals

-- an error of a compound file as a fault of a file
abbrev pub fault_of : CompoundError → FileFault
fault_of errors.Memory = faults.Memory
fault_of other = faults.Compound other

-- why a file isn't opened: its kind, or the first fault of a compound file; unless memory ran out
abbrev pub RefusesToOpen : List ℕ → FileFault → Type 0
RefusesToOpen file (faults.Kind kind) = (is_compound file ≡ false) × (is_bare file ≡ false) × (kind ≡ kind_of file)
RefusesToOpen file (faults.Compound error) = (is_compound file ≡ true) × (error ≢ errors.Memory) × Refuses file error
RefusesToOpen file faults.NoWorkbook = ⊥
RefusesToOpen file faults.Memory = Unit {0}

-- why an opened file gives no workbook: a compound file has no such stream, or that stream's chain has a
-- fault; unless memory ran out
abbrev pub RefusesWorkbook : Container → FileFault → Type 0
RefusesWorkbook (compound_file compound) faults.NoWorkbook = workbook compound.listing.items ≡ None
RefusesWorkbook (compound_file compound) (faults.Compound error) =
    (item : Item) × IsWorkbookItem compound item × (error ≢ errors.Memory) × RefusesItem compound item error
RefusesWorkbook container faults.Memory = Unit {0}
RefusesWorkbook container other = ⊥

-- why a file gives no workbook: the first fault
abbrev pub RefusesFile : List ℕ → FileFault → Type 0
RefusesFile file fault = RefusesToOpen file fault
    ⊎ ((container : Container) × OpensContainer file container × RefusesWorkbook container fault)
