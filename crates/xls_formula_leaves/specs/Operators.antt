-- The binary operators in the text of a formula as Excel shows it ([MS-XLS] 2.5.198), as lists of characters.
use Rattle.std.specs.Prelude.{ℕ, List, codes}
use Rattle.xls_ptg.specs.declared.operators.Operator.{Operator}
use Rattle.xls_ptg.specs.declared.operators.Operator.TheVariants as operators
use Rattle.xls_formula.specs.Words.{operator_text}

-- 0C (PtgGe) and 0D (PtgGt), which the exact reading exchanges, and the others
abbrev pub sign_of : Operator → List ℕ
sign_of operators.Ge = codes ">="
sign_of operators.Gt = codes ">"
sign_of operator = operator_text operator
