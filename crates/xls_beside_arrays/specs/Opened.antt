-- What a stream without a fault gives a call, and why a call isn't done.
use Rattle.std.specs.Prelude.{◌≡◌, ℕ, ◌<◌, ◌≤◌, List, [], length, Option, Some, None, slice_get}
use Rattle.std.specs.List.{fold}
use Rattle.xls_record.specs.declared.version.Biff.{Biff}
use Rattle.xls_data.specs.Sheets.{SheetContent}
use Rattle.xls_meaning.specs.Reading.{last_named}
use Rattle.xls_open.specs.Globals.{Sheets, State}
use Rattle.xls_beside.specs.Checked.{HasGlobals}
use Rattle.xls_beside.specs.Parts.{parts_of}
use Rattle.xls_beside.specs.declared.parts.SheetPart.{SheetPart}
use Rattle.xls_arrays.specs.Held.{IsPlainStream, RefusesStream}
use Rattle.xls_arrays.specs.Options.{options_by}
use Rattle.xls_arrays.specs.declared.options.Options.{Options}
use Rattle.xls_arrays.specs.declared.refusal.Refusal.{Refusal}
use Rattle.xls_arrays.specs.declared.refusal.Refusal.TheVariants as refusals
use Rattle.xls_beside_arrays.specs.Arrays.{Arrays, nothing}
use Rattle.xls_beside_arrays.specs.Filled.{RoomsHold}
use Rattle.xls_beside_arrays.specs.declared.opening.OpenedSheet.{OpenedSheet}
use Rattle.xls_beside_arrays.specs.declared.rooms.Rooms.{Rooms}

-- the records aren't obfuscated, the stream is within the limit of bytes and has no fault, and this is in force at the end
-- of its globals
pub record IsOpened (options : Options) (stream : List ℕ) (globals : State) : Type 0 where
  pub plain : IsPlainStream options stream
  pub sound : HasGlobals (options_by options) stream globals

-- ---- of a workbook

-- these arrays are what the globals and the stream say
pub record IsOfBook {X : Type 0} (arrays_of : State → List ℕ → Arrays X) (options : Options) (stream : List ℕ)
    (a : Arrays X) : Type 0 where
  pub globals : State
  pub opened : IsOpened options stream globals
  pub arrays : a ≡ arrays_of globals stream

-- why a stream isn't read: as it isn't for its cells; a sheet isn't asked for
abbrev pub RefusesBook : Options → List ℕ → Refusal → Type 0
RefusesBook options stream (refusals.NoSheet index) = ⊥
RefusesBook options stream other = RefusesStream options stream other

-- ---- of a sheet

-- the part of the last sheet of the name of a sheet
abbrev pub part_listed : Biff → Sheets → List ℕ → Option (ℕ × SheetContent) → Option SheetPart
part_listed version sheets stream None = None
part_listed version sheets stream (Some q) = last_named (parts_of version sheets stream) q.1.name

-- of the sheet of an index
abbrev pub part_of : State → List ℕ → ℕ → Option SheetPart
part_of globals stream index = part_listed globals.version globals.sheets stream (slice_get globals.sheets index)

-- the things of a part, if there is one
abbrev pub things_if : {Y : Type 0} → (SheetPart → List Y) → Option SheetPart → List Y
things_if things None = []
things_if things (Some part) = things part

-- these arrays are what comes of the things in the part of the sheet that is asked for, one after another
pub record IsOfSheet {X Y : Type 0} (step : Arrays X → Y → Arrays X) (things : State → List ℕ → SheetPart → List Y)
    (options : Options) (stream : List ℕ) (a : Arrays X) : Type 0 where
  pub globals : State
  pub opened : IsOpened options stream globals
  pub there : options.sheet < length globals.sheets
  pub arrays : a ≡ fold step nothing (things_if (things globals stream) (part_of globals stream options.sheet))

-- why it isn't read: the same, or the workbook has no such sheet
abbrev pub RefusesSheet : Options → List ℕ → Refusal → Type 0
RefusesSheet options stream (refusals.NoSheet index) =
    (globals : State) × IsOpened options stream globals × (index ≡ options.sheet) × (length globals.sheets ≤ index)
RefusesSheet options stream other = RefusesStream options stream other

-- ---- for the contracts of the steps

pub record IsSheetOpened (options : Options) (stream : List ℕ) (sheet : OpenedSheet) : Type 0 where
  pub opened : IsOpened options stream sheet.globals
  pub there : options.sheet < length sheet.globals.sheets
  pub part : sheet.part ≡ part_of sheet.globals stream options.sheet

-- where nothing was laid before, arrays that are held so were
abbrev pub LaysHeld : {X : Type 0} → (Arrays X → Type 0) → Rooms X → Rooms X → Type 0
LaysHeld {X} Held before after = RoomsHold before nothing → (a : Arrays X) × Held a × RoomsHold after a
