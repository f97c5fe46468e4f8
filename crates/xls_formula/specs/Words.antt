-- The words that tokens print as they stand, as lists of characters.
use Rattle.std.specs.Prelude.{ℕ, List, codes, Bool, true, false}
use Rattle.xls_data.specs.Errors.{error_text}
use Rattle.xls_data.specs.declared.errors.CellErrorType.{CellErrorType}
use Rattle.xls_data.specs.declared.errors.CellErrorType.TheVariants as failures
use Rattle.xls_dates.specs.Numbers.{bits_text}
use Rattle.xls_rounding.specs.FormulaNumbers.{formula_number}
use Rattle.xls_ptg.specs.declared.operators.Operator.{Operator}
use Rattle.xls_ptg.specs.declared.operators.Operator.TheVariants as operators
use Rattle.xls_formula.specs.declared.numbers.NumberStyle.{NumberStyle}
use Rattle.xls_formula.specs.declared.numbers.NumberStyle.TheVariants as styles

-- Ge prints `>` and Gt `>=`, which is the rule of the crate calamine: [MS-XLS] 2.5.198 has them the
-- other way round
abbrev pub operator_text : Operator → List ℕ
operator_text operators.Add = codes "+"
operator_text operators.Sub = codes "-"
operator_text operators.Mul = codes "*"
operator_text operators.Div = codes "/"
operator_text operators.Power = codes "^"
operator_text operators.Concat = codes "&"
operator_text operators.Lt = codes "<"
operator_text operators.Le = codes "<="
operator_text operators.Eq = codes "="
operator_text operators.Ge = codes ">"
operator_text operators.Gt = codes ">="
operator_text operators.Ne = codes "<>"
operator_text operators.Isect = codes " "
operator_text operators.Union = codes ","
operator_text operators.Range = codes ":"

-- an error value as a cell prints it, but for one
abbrev pub err_text : CellErrorType → List ℕ
err_text failures.GettingData = codes "#GETTING_DATA"
err_text error = error_text error

abbrev pub bool_word : Bool → List ℕ
bool_word true = codes "TRUE"
bool_word false = codes "FALSE"

-- the double with these bits
abbrev pub number_word : NumberStyle → ℕ → List ℕ
number_word styles.Bits bits = bits_text bits
number_word styles.Decimal bits = formula_number bits

-- a return or a space
abbrev pub space_mark : Bool → ℕ
space_mark true = 13
space_mark false = 32
