-- What stands in place of a formula that isn't spelled: where it is, and why.
use Rattle.std.specs.Prelude.{ℕ, List, ◌++◌, codes, Result, Ok, Err}
use Rattle.std.specs.Fmt.{decimal}
use Rattle.std.specs.Str.{chars}
use Rattle.xls_shown_ptg.specs.FaultText.{fault_text}
use Rattle.xls_shown_ptg.specs.declared.fault.Fault.{Fault}
use Rattle.xls_shared_formulas.specs.declared.fields.CellPlace.{CellPlace}

-- of a cell, in UTF-8
abbrev pub cell_refusal : CellPlace → Fault → List ℕ
cell_refusal cell fault =
    codes "Unrecognised formula for cell (" ++ decimal cell.row ++ codes ", " ++ decimal cell.column ++ codes "): " ++ fault_text fault

-- of a defined name, in UTF-8
abbrev pub name_refusal : Fault → List ℕ
name_refusal fault = codes "Unrecognised formula: " ++ fault_text fault

-- the text of a formula, as a list of characters, or why there is none
abbrev pub told_of_cell : CellPlace → Result (List ℕ) Fault → List ℕ
told_of_cell cell (Ok text) = text
told_of_cell cell (Err fault) = chars (cell_refusal cell fault)

abbrev pub told_of_name : Result (List ℕ) Fault → List ℕ
told_of_name (Ok text) = text
told_of_name (Err fault) = chars (name_refusal fault)
