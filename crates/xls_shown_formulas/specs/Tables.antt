-- The text of a data table, as a list of characters: `TABLE(row,column)`, its inputs as cells without `$`.
use Rattle.std.specs.Prelude.{ℕ, List, [], ◌++◌, true, codes, Option, Some, None}
use Rattle.xls_ptg.specs.declared.corner.Corner.{Corner}
use Rattle.xls_shared_formulas.specs.declared.fields.CellPlace.{CellPlace}
use Rattle.xls_shared_formulas.specs.declared.contents.TableInput.{TableInput}
use Rattle.xls_shared_formulas.specs.declared.contents.TableInput.TheVariants.{Cell, Gone}
use Rattle.xls_shared_formulas.specs.declared.contents.TableInputs.{TableInputs}
use Rattle.xls_formula_leaves.specs.Cells.{cell_text}

abbrev pub relative : CellPlace → Corner
relative at = record { row = at.row; column = at.column; is_row_relative = true; is_column_relative = true }

abbrev pub input_text : TableInput → List ℕ
input_text (Cell at) = cell_text (relative at)
input_text Gone = codes "#REF!"

-- nothing for one that the table doesn't have
abbrev pub input_if : Option TableInput → List ℕ
input_if (Some input) = input_text input
input_if None = []

abbrev pub table_text : TableInputs → List ℕ
table_text inputs = codes "TABLE(" ++ (input_if inputs.row ++ (codes "," ++ (input_if inputs.column ++ codes ")")))
