-- Steps of laying what a view shows, for the contracts of the steps.
use Rattle.std.specs.Prelude.{◌≡◌, ℕ, ◌≤◌, List, Some, length, slice_get}
use Rattle.xls_meaning.specs.Reading.{BookView}
use Rattle.xls_arrays.specs.declared.refusal.Refusal.{Refusal}
use Rattle.xls_arrays.specs.declared.refusal.Refusal.TheVariants as refusals
use Rattle.xls_arrays.specs.Arrays.{Reported, laid, with_name, with_sheet}
use Rattle.xls_arrays.specs.Filled.{Lays}
use Rattle.xls_arrays.specs.Held.{Misses}
use Rattle.xls_arrays.specs.Displayed.{asked_for, each_with}
use Rattle.xls_arrays.specs.declared.options.Options.{Options}
use Rattle.xls_arrays.specs.declared.rooms.Rooms.{Rooms}

-- the sheet of an index was laid
abbrev pub LaysOne : BookView → ℕ → Rooms → Rooms → Type 0
LaysOne book index before after =
    (t : Reported) × (slice_get (each_with book.sheets book.contents) index ≡ Some t) × Lays before after (λ a. with_sheet a t)

-- the sheets that are asked for were
abbrev pub LaysAskedFor : Options → BookView → Rooms → Rooms → Type 0
LaysAskedFor options book before after =
    (ts : List Reported) × (asked_for options book ≡ Some ts) × Lays before after (λ a. laid with_sheet a ts)

-- the defined names were, and then these sheets
abbrev pub LaysView : Options → BookView → Rooms → Rooms → Type 0
LaysView options book before after =
    (ts : List Reported) × (asked_for options book ≡ Some ts)
    × Lays before after (λ a. laid with_sheet (laid with_name a book.names) ts)

-- no sheet has the index, unless memory ran out
abbrev pub MissesIndex : BookView → ℕ → Refusal → Type 0
MissesIndex book index refusals.Memory = Unit {0}
MissesIndex book index (refusals.NoSheet n) = (n ≡ index) × (length book.sheets ≤ index)
MissesIndex book index other = ⊥

-- the sheet that is asked for isn't there, unless memory ran out
abbrev pub MissesSheet : Options → BookView → Refusal → Type 0
MissesSheet options book refusals.Memory = Unit {0}
MissesSheet options book (refusals.NoSheet index) = Misses options book index
MissesSheet options book other = ⊥
