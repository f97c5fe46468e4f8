-- Laws over the definitions.
use Rattle.std.specs.Prelude.{◌≡◌, ◌↔◌, ℕ, List, true}
use Rattle.xls_stream.specs.Listing.{Kept}
use Rattle.xls_biff.specs.SheetTable.{CellContext}
use Rattle.xls_meaning.specs.Rules.{Rules}
use Rattle.xls_meaning.specs.SheetTable.{kept_line}
use Rattle.xls_view.specs.Formulas.{formula_from, formula_of}
use Rattle.xls_view.specs.Viewing.{Viewed, IsViewed}
use Rattle.xls_refs.specs.Citations.{Citation, same_cells}
use Rattle.xls_refs.specs.Citing.{IsBookCited}
use Rattle.xls_refs.specs.Views.{cited_in}

-- a formula is what the table of a sheet's records has as one, whatever its cells are read under
abbrev pub FormulasByTheTable : Type 0
FormulasByTheTable = (s : CellContext) (k : Kept) → formula_of k ≡ formula_from (kept_line s k)

-- repeats are citations that are equal, and no others
abbrev pub RepeatsAreEqual : Type 0
RepeatsAreEqual = (c d : Citation) → (same_cells c d ≡ true) ↔ (c ≡ d)

-- what the formulas of a view cite is what the formulas of the workbook of its bytes cite
abbrev pub ViewedIsCited : Type 0
ViewedIsCited = (rules : Rules) (bytes : List ℕ) (view : Viewed) → IsViewed rules bytes view
    → IsBookCited rules bytes (cited_in view)
