-- What is hidden in a sheet that is written.
use Rattle.std.specs.Prelude.{◌≡◌, ℕ, List, drop, Option, Some, None, slice_get}
use Rattle.xls_data.specs.Sheets.{SheetContent}
use Rattle.xls_hidden.specs.FilterAreas.{first_area}
use Rattle.xls_hidden.specs.Hidden.{Hidden, IsHiddenIn, said_in}
use Rattle.xls_hidden_cells.specs.declared.sight.Sight.{Sight}
use Rattle.xls_hidden_cells.specs.declared.sight.Sight.TheVariants.{All, Seen}
use Rattle.xls_open.specs.Globals.{AreGlobals, State}
use Rattle.xls_open.specs.Workbook.{rules_of}
use Rattle.xls_open.specs.declared.options.XlsOptions.{XlsOptions}
use Rattle.xls_parts.specs.PartRecords.{globals_records}
use Rattle.xls_view.specs.Viewing.{Viewed}
use Rattle.xls_answers.specs.LastNamed.{last_named_from}

-- a workbook's stream, and what its globals give
pub record Parts : Type 0 where
  pub stream : List ℕ
  pub globals : State

-- by the records of its own, the area of its filter and the version: what is hidden in the sheet of an index, whose part
-- begins at an offset
abbrev pub IsHiddenPart : Parts → ℕ → ℕ → Hidden → Type 0
IsHiddenPart parts index offset hidden =
    IsHiddenIn parts.globals.version (first_area parts.globals.version index (globals_records parts.stream))
    (said_in parts.globals.version offset (drop offset parts.stream)) hidden

-- likewise of the sheet that the globals list so; nothing is known without one
abbrev pub IsHiddenListed : Parts → ℕ → Option (ℕ × SheetContent) → Option Hidden → Type 0
IsHiddenListed parts index None hidden = hidden ≡ None
IsHiddenListed parts index (Some listed) hidden = (h : Hidden) × (hidden ≡ Some h) × IsHiddenPart parts index listed.0 h

abbrev pub IsHiddenOf : Parts → Option ℕ → Option Hidden → Type 0
IsHiddenOf parts None hidden = hidden ≡ None
IsHiddenOf parts (Some index) hidden = IsHiddenListed parts index (slice_get parts.globals.sheets index) hidden

-- the last sheet that has the name of the sheet of an index, whose cells that shows
abbrev pub IsLastOf : Viewed → ℕ → Option ℕ → Type 0
IsLastOf view n last =
    (sheet : SheetContent) × (slice_get view.book.sheets n ≡ Some sheet) × (last ≡ last_named_from 0 sheet.name view.book.sheets)

-- what is hidden in the sheet of an index: that of the last sheet of its name
abbrev pub IsHiddenAt : Parts → Viewed → ℕ → Option Hidden → Type 0
IsHiddenAt parts view n hidden = (last : Option ℕ) × IsLastOf view n last × IsHiddenOf parts last hidden

-- ---- by what is asked for

-- nothing is looked at where all is asked for; else the workbook's own stream and globals
abbrev pub AreSkipped : Sight → XlsOptions → List ℕ → Option Parts → Type 0
AreSkipped All options stream parts = parts ≡ None
AreSkipped Seen options stream parts =
    (p : Parts) × (parts ≡ Some p) × (p.stream ≡ stream) × AreGlobals (rules_of options) stream p.globals

abbrev pub IsSkippedAt : Option Parts → Viewed → ℕ → Option Hidden → Type 0
IsSkippedAt None view n hidden = hidden ≡ None
IsSkippedAt (Some parts) view n hidden = IsHiddenAt parts view n hidden

-- what is left out of the sheet of an index
abbrev pub SkipsBy : Sight → XlsOptions → List ℕ → Viewed → ℕ → Option Hidden → Type 0
SkipsBy sight options stream view n hidden =
    (parts : Option Parts) × AreSkipped sight options stream parts × IsSkippedAt parts view n hidden
