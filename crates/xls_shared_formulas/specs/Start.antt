-- Which formula a cell has, by the first of its tokens ([MS-XLS] 2.5.198).
use Rattle.std.specs.Prelude.{ℕ, ◌-◌, List, length, slice_index, nat_lt, ◌==◌, if◌then◌else◌, Result, Ok, Err}
use Rattle.xls_stream.specs.declared.part.Part.TheVariants as parts
use Rattle.xls_record.specs.declared.error.XlsError.TheVariants as errors
use Rattle.xls_ptg.specs.Fields.{word_at}
use Rattle.xls_shown_ptg.specs.declared.fault.Fault.{Fault}
use Rattle.xls_shown_ptg.specs.declared.fault.Fault.TheVariants as faults
use Rattle.xls_shared_formulas.specs.declared.fields.CellPlace.{CellPlace}
use Rattle.xls_shared_formulas.specs.declared.start.FormulaStart.{FormulaStart}
use Rattle.xls_shared_formulas.specs.declared.start.FormulaStart.TheVariants.{Own, Exp, Tbl}

-- row and column behind the token's first byte
abbrev pub place_behind : List ℕ → CellPlace
place_behind tokens = record { row = word_at 1 tokens; column = word_at 3 tokens }

-- 01 (PtgExp)
abbrev pub exp_at : List ℕ → Result FormulaStart Fault
exp_at tokens =
    if nat_lt (length tokens) 5 then Err (faults.Xls (errors.Len 4 (length tokens - 1) parts.PtgExp)) else Ok (Exp (place_behind tokens))

-- 02 (PtgTbl)
abbrev pub tbl_at : List ℕ → Result FormulaStart Fault
tbl_at tokens = if nat_lt (length tokens) 5 then Err (faults.Tbl 4 (length tokens - 1)) else Ok (Tbl (place_behind tokens))

-- any other token, or none, is of the cell's own formula
abbrev pub start_at : List ℕ → Result FormulaStart Fault
start_at tokens =
    if slice_index tokens 0 == 0x01 then exp_at tokens
    else if slice_index tokens 0 == 0x02 then tbl_at tokens
    else Ok Own
