-- The printed texts of error values.
use Rattle.std.specs.Prelude.{ℕ, List, codes}
use Rattle.xls_data.specs.declared.errors.CellErrorType.{CellErrorType}
use Rattle.xls_data.specs.declared.errors.CellErrorType.TheVariants as variant

-- what an error value prints
abbrev pub error_text : CellErrorType → List ℕ
error_text variant.Div0 = codes "#DIV/0!"
error_text variant.NA = codes "#N/A"
error_text variant.Name = codes "#NAME?"
error_text variant.Null = codes "#NULL!"
error_text variant.Num = codes "#NUM!"
error_text variant.Ref = codes "#REF!"
error_text variant.Value = codes "#VALUE!"
error_text variant.GettingData = codes "#DATA!"
