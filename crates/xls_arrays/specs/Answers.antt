-- What the calls answer.
use Rattle.std.specs.Prelude.{◌≡◌, ◌⊎◌, ℕ, Bool, true, false, List, length, take, Result, Ok, Err}
use Rattle.xls_container.specs.Files.{RefusesFile, WorkbookBytes}
use Rattle.xls_container.specs.declared.fault.FileFault.{FileFault}
use Rattle.xls_dates.specs.declared.numbers.Number.TheVariants.{Bits}
use Rattle.xls_decimals.specs.Moments.{IsDate, IsDuration}
use Rattle.xls_arrays.specs.Codes.{plain}
use Rattle.xls_arrays.specs.Faults.{fault_numbered}
use Rattle.xls_arrays.specs.Refusals.{refusal_of_file}
use Rattle.xls_arrays.specs.declared.faults.Fault.{Fault}
use Rattle.xls_arrays.specs.declared.refusal.Refusal.{Refusal}
use Rattle.xls_arrays.specs.declared.refusal.Refusal.TheVariants as refusals
use Rattle.xls_arrays.specs.Values.{truth_bit}
use Rattle.xls_arrays.specs.Arrays.{Arrays, empty, sizes_of}
use Rattle.xls_arrays.specs.Filled.{FitsBefore, RoomsHold}
use Rattle.xls_arrays.specs.Held.{IsHeld, RefusesStream}
use Rattle.xls_arrays.specs.Shown.{IsShownHeld, one_sheet}
use Rattle.xls_arrays.specs.Whole.{PutsWhole}
use Rattle.xls_arrays.specs.declared.options.Options.{Options}
use Rattle.xls_arrays.specs.declared.items.CellItem.{CellItem}
use Rattle.xls_arrays.specs.declared.items.Sizes.{Sizes}
use Rattle.xls_arrays.specs.declared.rooms.Rooms.{Rooms}

-- how a call ends: it is done, and the fault is all 0; or it is refused, for what the fault tells. The code is
-- that of the fault
pub record Answers (Done : Type 0) (Refuses : Refusal → Type 0) (fault : Fault) (code : ℕ) : Type 0 where
  pub reported : code ≡ fault.code
  pub ends : (Done × (fault ≡ plain 0)) ⊎ ((r : Refusal) × Refuses r × (fault ≡ fault_numbered r))

-- likewise of what was done inside
abbrev pub answered_fault : Result (Unit {0}) Refusal → Fault
answered_fault (Ok x) = plain 0
answered_fault (Err r) = fault_numbered r

abbrev pub IsAnswer : Result (Unit {0}) Refusal → Fault → ℕ → Type 0
IsAnswer done fault code = (fault ≡ answered_fault done) × (code ≡ fault.code)

-- ---- counting

-- these are the sizes of what the stream holds
abbrev pub AreSizes : Options → List ℕ → Sizes → Type 0
AreSizes options stream sizes =
    (is_1904 : Bool) × (a : Arrays) × IsHeld options stream is_1904 a × (sizes ≡ sizes_of a (truth_bit is_1904))

-- these were laid, as they are held so, and have these sizes
abbrev pub AreLaid : (Options → List ℕ → Bool → Arrays → Type 0) → Options → List ℕ → Rooms → Sizes → Type 0
AreLaid Held options stream rooms sizes =
    (is_1904 : Bool) × (a : Arrays) × Held options stream is_1904 a × (sizes ≡ sizes_of a (truth_bit is_1904)) × RoomsHold rooms a

-- they are told, or none
abbrev pub Measures : Options → List ℕ → Sizes → Fault → ℕ → Type 0
Measures options stream sizes fault code =
    Answers (AreSizes options stream sizes)
    (λ r. RefusesStream options stream r × (sizes ≡ sizes_of empty 0)) fault code

-- ---- filling

-- the arrays begin with these
pub record Begin (after a : Arrays) : Type 0 where
  pub sheets : take (length a.sheets) after.sheets ≡ a.sheets
  pub names : take (length a.names) after.names ≡ a.names
  pub cells : take (length a.cells) after.cells ≡ a.cells
  pub formulas : take (length a.formulas) after.formulas ≡ a.formulas
  pub regions : take (length a.regions) after.regions ≡ a.regions
  pub texts : take (length a.texts) after.texts ≡ a.texts

-- the arrays begin with what the stream holds so, which has these sizes
abbrev pub AreFilled : (Options → List ℕ → Bool → Arrays → Type 0) → Options → List ℕ → Arrays → Sizes → Type 0
AreFilled Held options stream after sizes =
    (is_1904 : Bool) × (a : Arrays) × Held options stream is_1904 a × (sizes ≡ sizes_of a (truth_bit is_1904)) × Begin after a

-- why they aren't filled: one is too short for what the stream holds, which has these sizes, or the stream isn't
-- read, and the sizes are none
abbrev pub RefusesToFill : (Options → List ℕ → Bool → Arrays → Type 0) → Options → List ℕ → Arrays → Sizes → Refusal → Type 0
RefusesToFill Held options stream after sizes refusals.TooShort =
    (is_1904 : Bool) × (a : Arrays) × Held options stream is_1904 a × (sizes ≡ sizes_of a (truth_bit is_1904)) × (FitsBefore after a → ⊥)
RefusesToFill Held options stream after sizes other = RefusesStream options stream other × (sizes ≡ sizes_of empty 0)

-- an array keeps its length, so these are those that the caller gave
abbrev pub ReadsAs : (Options → List ℕ → Bool → Arrays → Type 0) → Options → List ℕ → Arrays → Sizes → Fault → ℕ → Type 0
ReadsAs Held options stream after sizes fault code =
    Answers (AreFilled Held options stream after sizes) (RefusesToFill Held options stream after sizes) fault code

abbrev pub Reads : Options → List ℕ → Arrays → Sizes → Fault → ℕ → Type 0
Reads = ReadsAs IsHeld

-- likewise of what is shown of the cells of one sheet: cells and texts, and nothing of the other arrays
abbrev pub ReadsShown : Options → List ℕ → List CellItem → List ℕ → Sizes → Fault → ℕ → Type 0
ReadsShown options stream cells texts sizes fault code =
    (after : Arrays) × (after.cells ≡ cells) × (after.texts ≡ texts)
    × ReadsAs IsShownHeld (one_sheet options) stream after sizes fault code

-- ---- the workbook's stream of a file

-- it was put into the array, or not, and its length is told
abbrev pub KeepsStream : List ℕ → List ℕ → List ℕ → ℕ → Bool → Type 0
KeepsStream file before after size whole =
    (stream : List ℕ) × WorkbookBytes file stream × PutsWhole stream before after size whole

-- why it wasn't: the array is too short, or the file gives none
abbrev pub RefusesStreamOf : List ℕ → List ℕ → List ℕ → ℕ → Refusal → Type 0
RefusesStreamOf file before after size r =
    ((r ≡ refusals.TooShort) × KeepsStream file before after size false)
    ⊎ (((cause : FileFault) × RefusesFile file cause × (r ≡ refusal_of_file cause)) × (size ≡ 0) × (after ≡ before))

abbrev pub PutsStream : List ℕ → List ℕ → List ℕ → ℕ → Fault → ℕ → Type 0
PutsStream file before after size fault code =
    Answers (KeepsStream file before after size true) (RefusesStreamOf file before after size) fault code

-- ---- texts

-- a text is put into the array; or its length alone is told, where the array is too short; or nothing, where
-- memory ran out
abbrev pub PutsText : (List ℕ → Type 0) → List ℕ → List ℕ → ℕ → ℕ → Type 0
PutsText Is before after size code =
    ((code ≡ 0) × ((text : List ℕ) × Is text × PutsWhole text before after size true))
    ⊎ ((code ≡ 2) × ((text : List ℕ) × Is text × PutsWhole text before after size false))
    ⊎ ((code ≡ 1) × (size ≡ 0) × (after ≡ before))

-- the text of a number of days
abbrev pub IsSerialText : ℕ → Bool → Bool → List ℕ → Type 0
IsSerialText bits is_1904 true text = IsDuration (Bits bits) text
IsSerialText bits is_1904 false text = IsDate is_1904 (Bits bits) text
