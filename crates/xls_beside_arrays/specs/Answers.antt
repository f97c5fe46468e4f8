-- What the calls answer.
use Rattle.std.specs.Prelude.{◌≡◌, ◌⊎◌, ℕ, ◌≤◌, List, take, length, Result, Ok, Err}
use Rattle.xls_arrays.specs.Answers.{Answers, IsAnswer}
use Rattle.xls_arrays.specs.declared.faults.Fault.{Fault}
use Rattle.xls_arrays.specs.declared.refusal.Refusal.{Refusal}
use Rattle.xls_arrays.specs.declared.refusal.Refusal.TheVariants as refusals
use Rattle.xls_beside_arrays.specs.Arrays.{Arrays, counts_of, nothing}
use Rattle.xls_beside_arrays.specs.Filled.{HasRoom}
use Rattle.xls_beside_arrays.specs.declared.items.Counts.{Counts}
use Rattle.xls_beside_arrays.specs.declared.rooms.Rooms.{Rooms}

-- the arrays begin with these
pub record Begin {X : Type 0} (after a : Arrays X) : Type 0 where
  pub items : take (length a.items) after.items ≡ a.items
  pub damages : take (length a.damages) after.damages ≡ a.damages
  pub texts : take (length a.texts) after.texts ≡ a.texts

-- arrays as long as these have room for those
pub record FitsBefore {X : Type 0} (before a : Arrays X) : Type 0 where
  pub items : length a.items ≤ length before.items
  pub damages : length a.damages ≤ length before.damages
  pub texts : length a.texts ≤ length before.texts

-- the arrays begin with those that are held so, of which there are so many
abbrev pub AreFilled : {X : Type 0} → (Arrays X → Type 0) → Arrays X → Counts → Type 0
AreFilled {X} Held after counts = (a : Arrays X) × Held a × (counts ≡ counts_of a) × Begin after a

-- why they aren't filled: one is too short for them, of which there are so many, or the stream isn't read, and there
-- are none
abbrev pub RefusesToFill : {X : Type 0} → (Arrays X → Type 0) → (Refusal → Type 0) → Arrays X → Counts → Refusal → Type 0
RefusesToFill {X} Held Refuses after counts refusals.TooShort =
    (a : Arrays X) × Held a × (counts ≡ counts_of a) × (FitsBefore after a → ⊥)
RefusesToFill {X} Held Refuses after counts other = Refuses other × (counts ≡ counts_of (nothing {X = X}))

-- an array keeps its length, so these are those that the caller gave
abbrev pub Fills : {X : Type 0} → (Arrays X → Type 0) → (Refusal → Type 0) → Arrays X → Counts → Fault → ℕ → Type 0
Fills Held Refuses after counts fault code = Answers (AreFilled Held after counts) (RefusesToFill Held Refuses after counts) fault code

-- likewise of a call without an array of damaged records
abbrev pub FillsUndamaged : {X : Type 0} → (Arrays X → Type 0) → (Refusal → Type 0) → List X → List ℕ → Counts → Fault → ℕ → Type 0
FillsUndamaged {X} Held Refuses items texts counts fault code =
    (after : Arrays X) × (after.items ≡ items) × (after.texts ≡ texts) × Fills Held Refuses after counts fault code

-- likewise without texts
abbrev pub FillsItems : {X : Type 0} → (Arrays X → Type 0) → (Refusal → Type 0) → List X → Counts → Fault → ℕ → Type 0
FillsItems {X} Held Refuses items counts fault code =
    (after : Arrays X) × (after.items ≡ items) × Fills Held Refuses after counts fault code

-- ---- for the contract of the end of a call

-- what was laid is told, and whether it has room; or why nothing was
abbrev pub IsEnd : {X : Type 0} → Result (Unit {0}) Refusal → Rooms X → Counts → Fault → ℕ → Type 0
IsEnd (Ok x) rooms counts fault code =
    (counts ≡ rooms.laid)
    × ((HasRoom rooms × IsAnswer (Ok tt) fault code) ⊎ ((HasRoom rooms → ⊥) × IsAnswer (Err refusals.TooShort) fault code))
IsEnd {X} (Err r) rooms counts fault code = (counts ≡ counts_of (nothing {X = X})) × IsAnswer (Err r) fault code
