-- What a walk over positions finds, for the proofs.
use Rattle.std.specs.Prelude.{◌≡◌, ℕ, ◌⊎◌, ◌-◌, ◌^◌, ◌==◌, if◌then◌else◌, min, max, List, [], ◌∷◌, map, Option, Some, None, Ok}
use Rattle.xls_range.specs.Positions.{Position}
use Rattle.xls_range.specs.Bounds.{bounds_of}
use Rattle.xls_data.specs.Content.{Content}
use Rattle.xls_data.specs.declared.regions.Dimensions.{Dimensions}
use Rattle.xls_stream.specs.Listing.{Kept}
use Rattle.xls_biff.specs.Cells.{CellEntry}
use Rattle.xls_meaning.specs.Order.{somes}
use Rattle.xls_stream.specs.declared.types.TheConstants as types
use Rattle.xls_biff.specs.SheetTable.{CellContext, SheetRecord, cells_record, shared_record}
use Rattle.xls_meaning.specs.SheetTable.{kept_line}
use Rattle.xls_view.specs.Formulas.{Formula, formula_of}
use Rattle.xls_view.specs.SheetPlacing.{IsAscent}
use Rattle.xls_view.specs.declared.survey.FoundCells.{FoundCells}
use Rattle.xls_view.specs.declared.survey.Survey.{Survey}

-- the smallest box that holds a box, if there is one, and a position
abbrev pub widened : Option Dimensions → Position → Dimensions
widened None p = record { start = p; end = p }
widened (Some d) p = record { start = (min p.0 d.start.0, min p.1 d.start.1); end = (max p.0 d.end.0, max p.1 d.end.1) }

-- one cell at this position, or none
abbrev pub IsCellAt : Option Position → List CellEntry → Type 0
IsCellAt None cells = cells ≡ []
IsCellAt (Some p) cells = (v : Content) × (cells ≡ (p, v) ∷ [])

-- what a record gives is this one cell, whose text, if it has one, stands in the record or in the table
abbrev pub IsOneCell : SheetRecord → CellEntry → Type 0
IsOneCell g e = (g ≡ cells_record (e ∷ [])) ⊎ (g ≡ shared_record (Some e))

-- where a record has no fault, it has one cell, which stands here, no formula and no region
pub record IsPlainCell (s : CellContext) (k : Kept) (p : Position) : Type 0 where
  pub one : (g : SheetRecord) → kept_line s k ≡ Ok g → (v : Content) × IsOneCell g (p, v)
  pub apart : k.typ ≡ types.MERGE_CELLS → ⊥

-- types of one cell whose records begin with its position; sheets have most of these, and of LabelSst
abbrev pub placed_types : List ℕ
placed_types = types.NUMBER ∷ types.RK ∷ types.BOOL_ERR ∷ types.LABEL ∷ types.R_STRING ∷ []

-- the formula of a record, if it is a Formula
abbrev pub formula_listed : Kept → List Formula
formula_listed k = somes (formula_of k ∷ [])

-- the box that was found, if there was a cell
abbrev pub box_found : FoundCells → Option Dimensions
box_found f =
    if f.ascent.count == 0 then None
    else Some (record { start = (f.top, f.left); end = (f.bottom, f.right) })

-- before the first cell each position widens the box to itself
pub record IsUnbounded (f : FoundCells) : Type 0 where
  pub top : f.top ≡ 2 ^ 32 - 1
  pub left : f.left ≡ 2 ^ 32 - 1
  pub bottom : f.bottom ≡ 0
  pub right : f.right ≡ 0

-- what was found of these cells
pub record IsFound (found : FoundCells) (cells : List CellEntry) : Type 0 where
  pub ascent : IsAscent found.ascent (map (λ (c : CellEntry). c.0) cells)
  pub bounds : box_found found ≡ bounds_of cells
  pub unbounded : found.ascent.count ≡ 0 → IsUnbounded found

-- what was found of these cells, formulas and regions
pub record IsSurvey (survey : Survey) (es : List CellEntry) (fs : List Formula) (rs : List Dimensions) : Type 0 where
  pub cells : IsFound survey.cells es
  pub formulas : IsAscent survey.formulas (map (λ (f : Formula). f.0) fs)
  pub merges : survey.merges ≡ 0 → rs ≡ []
