-- What Excel shows of the cells of a sheet, as arrays.
use Rattle.std.specs.Prelude.{◌≡◌, ℕ, ◌<◌, Bool, List, [], Option, Some, None, length, slice_get}
use Rattle.std.specs.List.{AllZip}
use Rattle.xls_data.specs.Content.{Content, text}
use Rattle.xls_biff.specs.Cells.{CellEntry}
use Rattle.xls_view.specs.Formats.{FormattedCell}
use Rattle.xls_view.specs.Viewing.{Viewed}
use Rattle.xls_cell_formats.specs.CellCodes.{code_of_xf}
use Rattle.xls_cell_formats.specs.Contents.{IsContentShown}
use Rattle.xls_arrays.specs.Arrays.{Arrays, empty, laid, with_cell_laid}
use Rattle.xls_arrays.specs.Filled.{Lays}
use Rattle.xls_arrays.specs.Held.{ShowsStream}
use Rattle.xls_arrays.specs.declared.options.Options.{Options}
use Rattle.xls_arrays.specs.declared.rooms.Rooms.{Rooms}

-- Excel may show this text of a content of this XF index, by the code of its format
abbrev pub IsCellShown : Viewed → Content × ℕ → List ℕ → Type 0
IsCellShown view c shown = IsContentShown (code_of_xf view.codes view.identifiers c.1) view.book.is_1904 c.0 shown

-- a cell with such a text as its content
abbrev pub IsShownAs : Viewed → FormattedCell → CellEntry → Type 0
IsShownAs view c e = (shown : List ℕ) × IsCellShown view c.1 shown × (e ≡ (c.0, text shown))

-- the cells of an index, if there is such a one
abbrev pub cells_in : Option (List FormattedCell) → List FormattedCell
cells_in None = []
cells_in (Some cs) = cs

-- the one sheet of the index is asked for, whatever `which` is
abbrev pub one_sheet : Options → Options
one_sheet options = record options { which = 1 }

-- these are the arrays of the texts that are shown of that sheet's cells, in their order, and this is the date system
pub record IsShownHeld (options : Options) (stream : List ℕ) (is_1904 : Bool) (a : Arrays) : Type 0 where
  pub view : Viewed
  pub shows : ShowsStream options stream view
  pub there : options.sheet < length view.book.sheets
  pub entries : List CellEntry
  pub shown : AllZip (IsShownAs view) (cells_in (slice_get view.formatted options.sheet)) entries
  pub arrays : a ≡ laid with_cell_laid empty entries
  pub epoch : is_1904 ≡ view.book.is_1904

-- ---- for the contracts of the steps

-- after what was laid before, a text that is shown of a cell was
abbrev pub LaysShownCell : Viewed → FormattedCell → Rooms → Rooms → Type 0
LaysShownCell view c before after = (e : CellEntry) × IsShownAs view c e × Lays before after (λ a. with_cell_laid a e)

-- one of each of these cells was
abbrev pub LaysShown : Viewed → List FormattedCell → Rooms → Rooms → Type 0
LaysShown view cells before after =
    (entries : List CellEntry) × AllZip (IsShownAs view) cells entries × Lays before after (λ a. laid with_cell_laid a entries)
