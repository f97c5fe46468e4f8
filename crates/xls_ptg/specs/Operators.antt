-- The binary operators ([MS-XLS] 2.5.198) by their tokens.
use Rattle.std.specs.Prelude.{ℕ, ◌==◌, if◌then◌else◌}
use Rattle.xls_ptg.specs.declared.operators.Operator.{Operator}
use Rattle.xls_ptg.specs.declared.operators.Operator.TheVariants as operators

-- tokens 03 to 11
abbrev pub operator_of : ℕ → Operator
operator_of ptg =
    if ptg == 0x03 then operators.Add
    else if ptg == 0x04 then operators.Sub
    else if ptg == 0x05 then operators.Mul
    else if ptg == 0x06 then operators.Div
    else if ptg == 0x07 then operators.Power
    else if ptg == 0x08 then operators.Concat
    else if ptg == 0x09 then operators.Lt
    else if ptg == 0x0A then operators.Le
    else if ptg == 0x0B then operators.Eq
    else if ptg == 0x0C then operators.Ge
    else if ptg == 0x0D then operators.Gt
    else if ptg == 0x0E then operators.Ne
    else if ptg == 0x0F then operators.Isect
    else if ptg == 0x10 then operators.Union
    else operators.Range
