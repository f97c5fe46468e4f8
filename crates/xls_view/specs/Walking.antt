-- Steps of the iterators over a sheet.
use Rattle.std.specs.Prelude.{◌≡◌, ℕ, List, [], ◌∷◌, ◌++◌, Option, Some, None}
use Rattle.std.specs.List.{AllByRecursion}
use Rattle.xls_stream.specs.Walks.{IsBytes}
use Rattle.xls_data.specs.declared.regions.Dimensions.{Dimensions}
use Rattle.xls_biff.specs.Cells.{CellEntry}
use Rattle.xls_biff.specs.SheetTable.{HasItems}
use Rattle.xls_biff.specs.declared.sheet_record.SheetRecord.{SheetRecord}
use Rattle.xls_biff.specs.declared.sheet_record.SheetRecord.TheVariants as variant
use Rattle.xls_formula.specs.Context.{Context}
use Rattle.xls_meaning.specs.Settings.{Settings}
use Rattle.xls_view.specs.SheetContents.{IsReadable, kept_in, regions_of}
use Rattle.xls_view.specs.Formulas.{Formula, formulas_kept}
use Rattle.xls_view.specs.Formats.{FormattedCell}
use Rattle.xls_view.specs.Values.{cell_entry, formatted_entry}
use Rattle.xls_view.specs.declared.value.SheetCell.{SheetCell}
use Rattle.xls_view.specs.declared.value.FormulaCell.{FormulaCell}

-- ---- what a call of next gives

-- a call of next with these left gives the first of them and leaves the others
abbrev pub LendsNext : {C E : Type 0} → (C → E) → List E → Option C → List E → Type 0
LendsNext seen before None after = (before ≡ []) × (after ≡ [])
LendsNext seen before (Some c) after = before ≡ seen c ∷ after

abbrev pub CellSteps : List CellEntry → Option SheetCell → List CellEntry → Type 0
CellSteps = LendsNext cell_entry

-- likewise with its XF index
abbrev pub FormattedSteps : List FormattedCell → Option SheetCell → List FormattedCell → Type 0
FormattedSteps = LendsNext formatted_entry

-- a formula by its position and its tokens
abbrev pub formula_seen : FormulaCell → Formula
formula_seen f = ((f.row, f.column), f.rgce.now)

abbrev pub LendsFormula : List Formula → Option FormulaCell → List Formula → Type 0
LendsFormula = LendsNext formula_seen

abbrev pub MergeSteps : List Dimensions → Option Dimensions → List Dimensions → Type 0
MergeSteps = LendsNext (λ d. d)

-- the formulas that are left, and what they may name
pub record NamedContext : Type 0 where
  pub context : Context
  pub left : List Formula

-- ---- the records that are left

-- the bytes of the records that are left, and how many BOF records are open
abbrev pub Left : Type 0
Left = List ℕ × ℕ

-- each kept record that is left has no fault
abbrev pub IsSoundPart : Settings → Left → Type 0
IsSoundPart s left = IsBytes left.0 × AllByRecursion (IsReadable s.cells) (kept_in left.0 left.1)

-- the first formula of the records that are left
abbrev pub PassesFormula : Left → Option FormulaCell → Left → Type 0
PassesFormula before found after =
    LendsNext formula_seen (formulas_kept (kept_in before.0 before.1)) found (formulas_kept (kept_in after.0 after.1))

-- the first regions of the records that are left
abbrev pub PassesRegions : Left → Option (Dimensions × List Dimensions) → Left → Type 0
PassesRegions before None after =
    (regions_of (kept_in before.0 before.1) ≡ []) × (regions_of (kept_in after.0 after.1) ≡ [])
PassesRegions before (Some x) after =
    regions_of (kept_in before.0 before.1) ≡ x.0 ∷ x.1 ++ regions_of (kept_in after.0 after.1)

-- ---- a record

-- the body of a MulRk, and how many cells it has
abbrev pub run_of : SheetRecord → Option (List ℕ × ℕ)
run_of (variant.MulRk body count) = Some (body.now, count)
run_of _ = None

-- it was read from some record
abbrev pub IsReadRecord : SheetRecord → Type 0
IsReadRecord x = (typ : ℕ) × (body : List ℕ) × HasItems typ body x
