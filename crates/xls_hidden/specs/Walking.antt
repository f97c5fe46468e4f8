-- For the proofs: what the walks over lines and records say on their way.
use Rattle.std.specs.Prelude.{◌≡◌, ℕ, ◌-◌, ◌<◌, List, [], length, Option, Some, None, slice_index_or}
use Rattle.xls_record.specs.declared.version.Biff.{Biff}
use Rattle.xls_hidden.specs.declared.filter_areas.SheetArea.{SheetArea}
use Rattle.xls_hidden.specs.declared.lines.FilterArea.{FilterArea}
use Rattle.xls_hidden.specs.declared.lines.Why.{Why}
use Rattle.xls_hidden.specs.declared.said.Said.{Said}
use Rattle.xls_hidden.specs.declared.window.WindowSoFar.{WindowSoFar}
use Rattle.xls_hidden.specs.declared.window.WindowSoFar.TheVariants.{Before, Begun, Whole}
use Rattle.xls_parts.specs.PartRecords.{Placed}
use Rattle.xls_hidden.specs.Runs.{runs_from}
use Rattle.xls_hidden.specs.Windows.{FirstWindow, pane_in, first_window}
use Rattle.xls_hidden.specs.FilterAreas.{area_for, or_else, first_area}

-- from this line on the first that can't be seen is that one, for this reason
pub record IsFirstUnseen (why : ℕ → Option Why) (from count line : ℕ) (reason : Why) : Type 0 where
  pub below : line < count
  pub reason_is : why line ≡ Some reason
  pub same : runs_from why from (count - from) ≡ runs_from why line (count - line)

-- the first window, by what is known of it and the records behind that
abbrev pub completed : WindowSoFar → List Said → FirstWindow
completed Before said = first_window said
completed (Begun w) said = Some (w, pane_in said)
completed (Whole w p) said = Some (w, p)

abbrev pub at_the_end : WindowSoFar → FirstWindow
at_the_end window = completed window []

-- an area was found, perhaps
pub record GainsArea (old : List (Option FilterArea)) (found : Option SheetArea) (new : List (Option FilterArea)) : Type 0 where
  pub same_length : length new ≡ length old
  pub each : (sheet : ℕ) → sheet < length old → slice_index_or new sheet None ≡ or_else (slice_index_or old sheet None) (area_for sheet found)

-- what is there and what the records that are left tell are together what all tell
pub record AreAreasSoFar (version : Biff) (all left : List Placed) (sheets : ℕ) (areas : List (Option FilterArea)) : Type 0 where
  pub count : length areas ≡ sheets
  pub each : (sheet : ℕ) → sheet < sheets → or_else (slice_index_or areas sheet None) (first_area version sheet left) ≡ first_area version sheet all
