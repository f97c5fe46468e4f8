-- The part of a sheet that a view finds, for the proofs.
use Rattle.std.specs.Prelude.{◌≡◌, ℕ, List, Option, Some, None}
use Rattle.std.specs.Borrow.{Bor}
use Rattle.xls_meaning.specs.Settings.{Settings}
use Rattle.xls_meaning.specs.Reading.{SheetView}
use Rattle.xls_view.specs.SheetContents.{content_by, formatted_by, kept_in, settled}
use Rattle.xls_view.specs.Formats.{FormattedCell}
use Rattle.xls_view.specs.Formulas.{Formula, formulas_kept}
use Rattle.xls_view.specs.Viewing.{Viewed}
use Rattle.xls_view.specs.Walking.{IsSoundPart}

-- what the records of the sheets are read under
abbrev pub settings_viewed : Viewed → Settings
settings_viewed v = record { cells = v.cells; formulas = v.context }

-- the part whose content this is, and whose formulas and cells these are; none where there is none of them
abbrev pub IsPartOf : Viewed → Option SheetView → Option (List Formula) → Option (List FormattedCell) → Option (Bor (List ℕ)) → Type 0
IsPartOf v content formulas formatted None = (content ≡ None) × (formulas ≡ None) × (formatted ≡ None)
IsPartOf v content formulas formatted (Some part) =
    IsSoundPart (settings_viewed v) (part.now, 0)
    × (content ≡ Some (content_by (settings_viewed v) (kept_in part.now 0)))
    × (formulas ≡ Some (settled (formulas_kept (kept_in part.now 0))))
    × (formatted ≡ Some (formatted_by (settings_viewed v) (kept_in part.now 0)))
