-- Why a formula isn't spelled, in words.
use Rattle.std.specs.Prelude.{ℕ, List, ◌++◌, codes}
use Rattle.std.specs.Fmt.{decimal}
use Rattle.xls_text.specs.Errors.{upper_hex}
use Rattle.xls_record.specs.ErrorText.{error_text}
use Rattle.xls_shown_ptg.specs.declared.fault.Fault.{Fault}
use Rattle.xls_shown_ptg.specs.declared.fault.Fault.TheVariants as faults

-- what a part needs, and what is there
abbrev pub lengths : ℕ → ℕ → List ℕ
lengths expected found = codes " length, expected at least " ++ (decimal expected ++ (codes ", found " ++ decimal found))

-- a row and a column, counted from 0
abbrev pub place : ℕ → ℕ → List ℕ
place row column = codes "(" ++ (decimal row ++ (codes ", " ++ (decimal column ++ codes ")")))

abbrev pub fault_text : Fault → List ℕ
fault_text (faults.Xls error) = error_text error
fault_text (faults.Eptg kind) = codes "Unrecognized eptg: 0x" ++ upper_hex kind
fault_text (faults.ExtraArray expected found) = codes "Invalid PtgExtraArray" ++ lengths expected found
fault_text (faults.SerAr kind) = codes "Unrecognized SerAr: 0x" ++ upper_hex kind
fault_text (faults.NoFormula row column) = codes "No formula at " ++ place row column
fault_text (faults.NoTable row column) = codes "No table at " ++ place row column
fault_text (faults.Tbl expected found) = codes "Invalid PtgTbl" ++ lengths expected found
